pub mod Telling
pub mod Chunks
