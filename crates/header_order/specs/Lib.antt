pub mod Types
pub mod Kinds
pub mod Files
pub mod Laws
pub mod FirstRefusals
pub mod RefusedImports
pub mod FirstImports
