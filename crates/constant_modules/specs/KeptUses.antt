-- Imports that are used after a step over a constant, in a file of any declarations: definitions and laws alone,
-- without code (Go specification, Import declarations; Qualified identifiers).
pub mod Laws
