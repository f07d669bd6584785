pub mod Named
pub mod Packages
pub mod Left
pub mod Sites
pub mod Stay
