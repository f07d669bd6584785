pub mod Searched
pub mod Facts
