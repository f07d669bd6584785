pub mod Ahead
pub mod Decided
