pub mod Trees
pub mod Allowed
pub mod Texts
pub mod Steps
pub mod Kept
pub mod Runs
pub mod InlinedModules
mod Example
