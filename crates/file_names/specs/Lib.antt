pub mod Places
pub mod DeclaredNames
pub mod Members
pub mod Imports
