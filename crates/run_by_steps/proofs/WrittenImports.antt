-- The imports that steps add can be written: definitions and laws alone, without code.
pub mod Candidates
pub mod StepImports
pub mod Octets
pub mod ReadNames
