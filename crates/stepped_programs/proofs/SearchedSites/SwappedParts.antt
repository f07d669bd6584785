pub mod Lists
pub mod Walk
pub mod Decls
pub mod Keeps
