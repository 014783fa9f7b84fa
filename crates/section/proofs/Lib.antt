pub mod Outcomes
pub mod Placed
pub mod Wholes
pub mod Parts
