pub mod Four
pub mod Split
pub mod Steps
