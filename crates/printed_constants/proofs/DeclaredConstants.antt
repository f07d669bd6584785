pub mod Values
pub mod Members
pub mod Named
pub mod Unmarked
pub mod Read
mod Example
