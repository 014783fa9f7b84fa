pub mod Refusals
pub mod Meaning
pub mod Sounds
pub mod Bus
pub mod Tables
pub mod Maps
pub mod Laws
