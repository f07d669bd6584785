pub mod Qualifiers
pub mod Written
pub mod Literal
pub mod ToldNames
pub mod Calls
pub mod Aliases
