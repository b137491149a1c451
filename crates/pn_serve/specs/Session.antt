-- Sessions.
pub mod Lines
pub mod Resuming
