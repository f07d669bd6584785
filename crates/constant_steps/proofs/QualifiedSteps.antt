-- A step of a run over a constant that is declared as a name, where the use, the constant and what it is declared as
-- stand in any packages: the packages after mean the same (Go specification, Constant declarations; Qualified
-- identifiers).
pub mod Small
pub mod Targets
pub mod MembersNamed
pub mod Qualifiers
pub mod FormsNamed
pub mod PackagesAfter
pub mod UsesMeant
pub mod Declared
pub mod UsesKnown
pub mod NamedSwaps
pub mod HeadersUse
pub mod ImportsRight
pub mod NamedImports
pub mod NamedLinked
pub mod NamedRuns
pub mod MarkedTexts
pub mod UsesNamed
pub mod PutIsUsed
pub mod StillUsed
pub mod FormStillUsed
pub mod UsedElsewhere
pub mod ExampleParts
pub mod Example
pub mod ImportedExample
pub mod GroupExample
pub mod LeftUnused
