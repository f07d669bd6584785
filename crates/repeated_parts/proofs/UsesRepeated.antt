pub mod Kept
pub mod Flagged
