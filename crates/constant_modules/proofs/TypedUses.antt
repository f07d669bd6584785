pub mod Types
pub mod Walk
pub mod Decls
pub mod NoTypes
pub mod Over
pub mod Members
pub mod Before
mod DotExample
