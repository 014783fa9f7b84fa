pub mod Structure
pub mod Reading
pub mod Refusals
pub mod Said
pub mod Writing
pub mod Filling
pub mod Seen
pub mod Bounds
