pub mod Around
pub mod Programs
pub mod Trees
pub mod Headers
pub mod Places
pub mod Imports
