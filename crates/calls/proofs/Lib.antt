pub mod Grants
