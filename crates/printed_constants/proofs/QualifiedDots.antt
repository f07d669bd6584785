pub mod Untyped
pub mod Imports
pub mod Blocks
pub mod Declared
pub mod Dots
pub mod Undotted
pub mod Uses
