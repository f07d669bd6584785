pub mod Gathered
pub mod Told
