pub mod Calling
pub mod Exchanges
pub mod Printed
pub mod Setups
pub mod Told
