pub mod Applying
pub mod Prelude
pub mod Reducing
