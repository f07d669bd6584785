pub mod Operands
pub mod Decls
pub mod Files
