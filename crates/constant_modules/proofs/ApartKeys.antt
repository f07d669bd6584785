-- Keys of composite literals that no import of their file has for its name.
pub mod Spans
pub mod Names
pub mod Put
pub mod Formed
pub mod Found
pub mod AsRead
pub mod Beside
pub mod Keys
pub mod Steps
mod Example
