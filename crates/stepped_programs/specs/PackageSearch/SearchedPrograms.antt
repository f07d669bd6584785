pub mod Search
pub mod Programs
