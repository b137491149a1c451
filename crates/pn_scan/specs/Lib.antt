pub mod Pages
pub mod Paging
pub mod Prelude
pub mod Queries
pub mod QueryReading
pub mod Shown
pub mod Views
pub mod WalkValues
