pub mod BatchParts
pub mod CommandJson
pub mod CommandLimits
pub mod CommandLines
pub mod CommandParts
pub mod ControlJson
pub mod MadeReplies
pub mod MadeRows
