-- Connections that are answered in turns.
pub mod Looks
pub mod Loops
pub mod Proofs
pub mod Remarks
pub mod Fakes
pub mod Servers
pub mod Unread
