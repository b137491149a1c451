-- Lines as commands.
pub mod Checks
pub mod Controls
pub mod Grammar
pub mod Lines
pub mod Lookups
pub mod Meaning
pub mod Tablets
pub mod Words
