pub mod LookedUp
pub mod Imports
pub mod Removed
