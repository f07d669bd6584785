pub mod Headers
pub mod InPlace
pub mod Imports
pub mod Meaning
pub mod Steps
pub mod Uses
pub mod Example
