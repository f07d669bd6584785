pub mod Swaps
pub mod Laws
