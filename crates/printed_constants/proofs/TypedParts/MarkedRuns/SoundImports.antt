-- The imports that a step adds may be declared in their file: definitions and laws alone, without code (Go
-- specification, Import declarations; Declarations and scope).
pub mod Blocks
pub mod Sound
pub mod Times
pub mod Once
pub mod After
