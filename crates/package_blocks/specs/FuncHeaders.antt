pub mod NameRoles
pub mod Functions
pub mod Names
pub mod Steps
