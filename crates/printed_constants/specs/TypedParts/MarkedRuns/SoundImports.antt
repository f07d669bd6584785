-- The imports that a step adds may be declared in their file: definitions and laws alone, without code (Go
-- specification, Import declarations; Declarations and scope).
pub mod Laws
