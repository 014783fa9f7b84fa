pub mod Firsts
pub mod Decided
pub mod Said
pub mod Clear
pub mod Sounding
