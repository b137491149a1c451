pub mod CheckedLines
pub mod ToldLines
