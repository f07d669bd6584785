-- Imports that typing counts as used: definitions and laws alone, without code (Go specification, Import declarations;
-- Qualified identifiers).
pub mod Typed
pub mod Laws
pub mod Steps
