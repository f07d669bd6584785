pub mod Posts
pub mod Laws
