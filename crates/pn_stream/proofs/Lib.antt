pub mod ChunkLaws
pub mod Gathering
pub mod Published
pub mod Runs
pub mod SameBatch
pub mod SameMessage
pub mod Steps
