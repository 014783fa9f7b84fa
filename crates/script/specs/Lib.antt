pub mod Begins
pub mod Lines
pub mod Parts
pub mod Services
pub mod Settled
pub mod Words
