-- Imports that typing counts as used.
pub mod Lists
pub mod Walk
pub mod Known
pub mod Lifted
pub mod Headers
pub mod Declared
pub mod Named
pub mod Programs
pub mod Imports
pub mod Between
pub mod Literals
pub mod After
