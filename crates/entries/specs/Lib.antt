pub mod Finding
pub mod Locations
pub mod Exceptions
pub mod Widths
