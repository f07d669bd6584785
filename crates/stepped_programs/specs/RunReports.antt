pub mod Names
pub mod Rows
pub mod Kept
pub mod Reports
pub mod Laws
