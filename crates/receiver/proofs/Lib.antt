pub mod Shifts
pub mod Turned
pub mod Made
pub mod Looking
