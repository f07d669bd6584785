pub mod Stay
pub mod Universe
pub mod OtherSpans
mod Example
