pub mod Methods
pub mod Steps
