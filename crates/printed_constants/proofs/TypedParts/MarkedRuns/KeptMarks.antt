-- Steps over marked constants keep their marks those of constants that are declared as names: definitions and laws
-- alone, without code (Go specification, Constant declarations; Qualified identifiers; Import declarations).
pub mod Changed
pub mod Shapes
pub mod Served
pub mod Puts
pub mod Constants
pub mod Kept
