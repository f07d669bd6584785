pub mod Words
pub mod Blocks
pub mod Few
mod Example
