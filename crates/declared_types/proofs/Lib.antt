pub mod NamesClearer
pub mod Least
pub mod Meant
pub mod Found
pub mod Passed
