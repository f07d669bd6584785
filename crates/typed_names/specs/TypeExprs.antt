pub mod Grown
pub mod Answers
pub mod Fields
