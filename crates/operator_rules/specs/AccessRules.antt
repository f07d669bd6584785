pub mod Places
pub mod Slices
pub mod Functions
pub mod Selections
pub mod BuiltinRules
