-- The imports that a step adds: its package is led to them already, so they lead to no cycle of packages (Go
-- specification, Import declarations; Qualified identifiers).
pub mod Walk
pub mod Homes
pub mod Names
pub mod Forms
pub mod Steps
pub mod Example
