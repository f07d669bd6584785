pub mod TypedDots
pub mod Unspread
