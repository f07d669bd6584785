-- Uses of constants with the imports of their forms added, in programs of any declarations.
pub mod Envs
pub mod Walk
pub mod Decls
pub mod Values
pub mod Served
pub mod Listed
pub mod Meanings
pub mod Becomes
pub mod Stand
pub mod Uses
pub mod Kept
pub mod Steps
