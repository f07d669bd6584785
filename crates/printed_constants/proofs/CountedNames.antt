pub mod Counted
pub mod Tokens
pub mod Specs
pub mod Texts
pub mod Avoided
