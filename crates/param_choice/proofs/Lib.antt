pub mod Striking
pub mod Union
pub mod Exists
