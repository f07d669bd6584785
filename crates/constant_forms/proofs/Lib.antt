pub mod Members
pub mod ObstaclesTold
pub mod Forms
pub mod Names
pub mod Exact
