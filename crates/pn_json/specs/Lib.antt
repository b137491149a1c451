pub mod Answers
pub mod Members
pub mod Prelude
pub mod Tokens
