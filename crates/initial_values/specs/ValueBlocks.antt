pub mod Copies
pub mod Values
