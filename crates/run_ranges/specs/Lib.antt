pub mod Ranges
pub mod Walks
pub mod Laws
