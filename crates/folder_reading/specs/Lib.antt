pub mod Sources
pub mod Limits
pub mod Causes
