pub mod Lining
pub mod Marking
pub mod Lacking
pub mod Made
