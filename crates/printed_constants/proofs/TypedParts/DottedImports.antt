pub mod Imports
pub mod Walk
pub mod Decls
pub mod Stand
