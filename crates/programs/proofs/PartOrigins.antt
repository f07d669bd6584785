pub mod Themselves
pub mod Gathered
