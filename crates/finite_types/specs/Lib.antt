pub mod Finite
pub mod Flags
pub mod RefusedTypes
