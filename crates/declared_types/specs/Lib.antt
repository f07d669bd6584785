pub mod Headers
pub mod Members
pub mod Steps
