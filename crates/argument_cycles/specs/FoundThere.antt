pub mod There
pub mod Steps
pub mod Laws
