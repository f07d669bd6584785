pub mod Passing
pub mod Converted
pub mod BlockNames
