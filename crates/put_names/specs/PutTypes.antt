-- A step over a name of a type that becomes a name of a type puts it in a node of its file (Go specification, Alias
-- declarations; Source file organization). Definitions and laws alone, without code.
pub mod Uses
pub mod Laws
