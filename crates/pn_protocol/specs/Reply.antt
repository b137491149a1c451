-- Replies.
pub mod Faults
pub mod Making
pub mod Records
pub mod Short
pub mod Stats
pub mod Texts
