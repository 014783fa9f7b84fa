pub mod Decimal
pub mod Ends
pub mod Held
pub mod Hex
pub mod Keys
pub mod Marks
pub mod Tails
