pub mod Clear
pub mod Walk
pub mod Decls
pub mod Bare
pub mod Removed
pub mod Used
pub mod UsedWalk
pub mod Headers
pub mod Imports
pub mod Uses
mod Example
