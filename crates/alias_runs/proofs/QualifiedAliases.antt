-- A step of a run over an alias as a written type, where the use, the alias and the types that it is declared by stand
-- in any packages: the packages after mean the same (Go specification, Alias declarations; Qualified identifiers).
-- Definitions and laws alone, without code.
pub mod Lacking
pub mod Served
pub mod TextThere
pub mod FormThere
pub mod AliasThere
pub mod AliasNames
pub mod TypeSwaps
pub mod AliasSwapped
pub mod Example
