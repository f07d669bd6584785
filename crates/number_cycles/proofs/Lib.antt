pub mod Back
pub mod Owned
pub mod Closed
pub mod Flags
