pub mod Decimals
pub mod Digits
pub mod Feeds
pub mod Holding
pub mod Sizing
pub mod Tailing
