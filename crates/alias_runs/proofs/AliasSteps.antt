-- A step over a use of an alias: the packages after, in which the text of its type stands, mean what those before do
-- (Go specification, Alias declarations; Type identity; Declarations and scope).
pub mod RetypedWalk
pub mod RetypedInPlace
pub mod RetypedMeaning
pub mod AliasLeaves
pub mod AliasDecls
pub mod AliasStepLaw
pub mod AliasNamed
pub mod NamesRuns
pub mod PlainAliasForms
pub mod Instance
