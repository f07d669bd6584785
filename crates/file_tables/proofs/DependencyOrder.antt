pub mod Counted
pub mod Rows
pub mod Paths
pub mod Orders
