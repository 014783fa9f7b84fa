pub mod Lookups
pub mod Alerts
pub mod Pictures
pub mod Drives
pub mod Sentences
pub mod Fits
