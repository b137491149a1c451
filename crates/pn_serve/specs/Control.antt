-- Control sessions.
pub mod Commands
pub mod Held
pub mod Lines
pub mod Steps
