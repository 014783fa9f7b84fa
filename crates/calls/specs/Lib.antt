pub mod Numbers
pub mod Words
pub mod Replying
pub mod Verdicts
