pub mod Buffers
pub mod Crossing
pub mod Keys
pub mod Lives
pub mod Looks
