pub mod Expressions
pub mod Over
pub mod Added
mod Example
