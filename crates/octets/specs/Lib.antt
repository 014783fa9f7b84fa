pub mod Held
pub mod Bounds
