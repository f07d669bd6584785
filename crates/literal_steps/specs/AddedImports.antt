pub mod Beside
pub mod Added
pub mod Files
pub mod Laws
