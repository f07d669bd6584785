pub mod Reach
pub mod Further
pub mod Laws
