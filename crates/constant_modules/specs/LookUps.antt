-- The imports that a step removes, in a file of any declarations: definitions and laws alone, without code (Go
-- specification, Import declarations; Declarations and scope; Composite literals).
pub mod Beside
pub mod Laws
