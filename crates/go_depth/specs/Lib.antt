pub mod Depth
pub mod Deep
