pub mod Entities
pub mod Headers
pub mod Steps
