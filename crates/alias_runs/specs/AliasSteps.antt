-- A step over a use of an alias: the packages after, in which the text of its type stands, mean what those before do
-- (Go specification, Alias declarations; Type identity; Declarations and scope).
pub mod Retypable
pub mod RetypedPrograms
pub mod AliasUses
pub mod AliasSteps
pub mod Runs
pub mod PlainAlias
pub mod Laws
