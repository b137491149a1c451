pub mod Batches
pub mod Brokers
pub mod Calls
pub mod Messages
pub mod Prelude
pub mod Streams
