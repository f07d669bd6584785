pub mod Terms
pub mod Places
pub mod Mentioned
pub mod Unchanged
pub mod Statements
pub mod Functions
pub mod Operands
pub mod Declared
pub mod Packages
pub mod Runs
mod Example
