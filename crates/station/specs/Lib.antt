pub mod Ranges
pub mod Names
pub mod Places
pub mod Refusals
pub mod Rules
pub mod Services
