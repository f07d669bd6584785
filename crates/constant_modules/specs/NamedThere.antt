pub mod Alike
pub mod There
pub mod Laws
pub mod Steps
