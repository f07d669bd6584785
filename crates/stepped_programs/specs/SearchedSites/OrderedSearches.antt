pub mod Held
pub mod Search
pub mod Found
pub mod Laws
