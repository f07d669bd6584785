pub mod Entries
pub mod Marks
pub mod Types
pub mod Untyped
pub mod Read
pub mod Predeclared
pub mod Steps
pub mod FirstUses
pub mod Runs
mod Example
