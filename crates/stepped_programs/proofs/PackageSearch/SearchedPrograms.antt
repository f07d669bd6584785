pub mod Users
pub mod Settling
pub mod Packages
