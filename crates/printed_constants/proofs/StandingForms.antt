pub mod Exists
pub mod NoImport
pub mod Dots
pub mod Unnamed
pub mod Typed
