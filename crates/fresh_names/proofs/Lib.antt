pub mod Decimals
pub mod Candidates
pub mod Found
mod Example
