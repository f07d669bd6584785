pub mod Strings
pub mod Units
pub mod Literals
