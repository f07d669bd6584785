-- A step of a run over an alias as a written type, where the use, the alias and the types that it is declared by stand
-- in any packages: the packages after mean the same (Go specification, Alias declarations; Qualified identifiers).
-- Definitions and laws alone, without code.
pub mod NamedTexts
pub mod AliasUse
pub mod Laws
