pub mod Walked
pub mod Logs
pub mod Room
pub mod Stepped
