pub mod Counts
pub mod Left
