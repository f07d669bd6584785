-- Uses of aliases among the packages of a run: the alias that a name means there is the one that the rules of typing
-- say it means (Go specification, Alias declarations; Declarations and scope).
pub mod FirstAlias
pub mod NamedUse
pub mod TypeUse
pub mod Laws
