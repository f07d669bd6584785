pub mod Functions
pub mod Worlds
pub mod Laws
pub mod PrintedPackages
