pub mod Known
pub mod UseAnywhere
pub mod Groups
pub mod Literals
pub mod TypedParts
pub mod Runs
pub mod Laws
