pub mod Comparable
pub mod Flags
pub mod Keys
pub mod Grown
