pub mod Lists
pub mod Pictures
pub mod Runs
pub mod Stood
