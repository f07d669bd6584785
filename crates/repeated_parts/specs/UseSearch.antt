pub mod Answers
pub mod Search
pub mod UsesOfMarks
pub mod MarkValues
