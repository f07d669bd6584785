pub mod Nesting
pub mod Frames
pub mod Over
pub mod Sources
