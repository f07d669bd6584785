pub mod Ordered
pub mod Parts
pub mod Turns
pub mod Stays
pub mod Joins
pub mod Covering
pub mod Apart
