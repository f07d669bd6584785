pub mod Lists
pub mod Ordered
pub mod TypesSpelled
pub mod Spelled
pub mod Far
pub mod Walk
