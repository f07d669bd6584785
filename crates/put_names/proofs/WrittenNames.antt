-- The names that a step writes for packages are identifiers, so the imports that it adds can be written: definitions
-- and laws alone, without code (Go specification, Import declarations; Identifiers).
pub mod Candidates
pub mod ImportNames
pub mod StepNames
pub mod Kept
pub mod ReadNames
