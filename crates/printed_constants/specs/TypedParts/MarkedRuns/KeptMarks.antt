-- Steps over marked constants keep their marks those of constants that are declared as names: definitions and laws
-- alone, without code (Go specification, Constant declarations; Qualified identifiers; Import declarations).
pub mod Over
pub mod Laws
