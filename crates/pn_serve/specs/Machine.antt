-- What a line does.
pub mod Doing
pub mod Outcomes
pub mod Turns
