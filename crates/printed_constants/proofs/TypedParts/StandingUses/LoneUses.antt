-- The use of a constant stands alone at its span among the names in its file: definitions and laws alone, without code
-- (Go specification, Operands; Qualified identifiers; Selectors).
pub mod Grown
pub mod Walk
pub mod Held
pub mod Files
pub mod Uses
