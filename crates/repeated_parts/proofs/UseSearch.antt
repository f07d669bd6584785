pub mod Searching
pub mod Answered
pub mod UsesOfMarks
pub mod MarkValues
