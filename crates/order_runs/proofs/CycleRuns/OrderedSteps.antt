-- The dependency order of packages: no import leads to a cycle where packages can be ranked, and a step whose imports
-- are led to already keeps that (Go specification, Import declarations; Program initialization and execution).
pub mod Members
pub mod Ranked
pub mod Modules
pub mod Steps
pub mod Example
