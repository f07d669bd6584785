pub mod Spelled
pub mod Words
pub mod Fronts
pub mod Constraints
