pub mod Facts
pub mod Asking
pub mod Found
pub mod Packages
pub mod LookUp
pub mod Laws
