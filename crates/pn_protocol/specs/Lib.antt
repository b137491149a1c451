pub mod Command
pub mod Prelude
pub mod Reply
