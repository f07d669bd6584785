-- A step of a run over an alias as an expression: as what is called in a conversion, or as the type that `make` or
-- `new` is given, where the use, the alias and the types that it is declared by stand in any packages. The packages
-- after mean the same (Go specification, Alias declarations; Conversions; Qualified identifiers). Definitions and laws
-- alone, without code.
pub mod KnownAlias
pub mod TypesKept
pub mod CalledSwaps
pub mod PlacedSteps
pub mod Example
