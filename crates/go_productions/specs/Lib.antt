pub mod Terminals
pub mod Cursors
pub mod Answers
pub mod Parts
