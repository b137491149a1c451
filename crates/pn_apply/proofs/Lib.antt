pub mod Applied
pub mod Crossing
pub mod Entries
pub mod ReduceLaws
pub mod Tables
pub mod Turns
