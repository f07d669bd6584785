pub mod Answers
pub mod Params
