pub mod Answers
pub mod Driving
pub mod Engines
pub mod Giving
pub mod Handling
pub mod Standing
pub mod Turns
