pub mod Operators
pub mod Terminals
pub mod Texts
pub mod Tokens
pub mod Codes
