-- A step of a run over a constant that is declared as a name, where the use, the constant and what it is declared as
-- stand in any packages: the packages after mean the same (Go specification, Constant declarations; Qualified
-- identifiers).
pub mod MemberNames
pub mod NamedUse
pub mod ImportsStay
pub mod NamedRuns
pub mod MarkedTexts
pub mod Laws
