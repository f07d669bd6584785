-- Marks of constants are marks of constants that are declared as names, and so are uses of them: definitions and laws
-- alone, without code (Go specification, Constant declarations; Qualified identifiers).
pub mod Named
pub mod Laws
