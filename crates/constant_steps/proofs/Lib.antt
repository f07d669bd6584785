pub mod FirstNames
pub mod FirstDeclared
pub mod NamesOutside
pub mod UsesMeant
pub mod AfterStep
pub mod MarksFound
pub mod SimpleUses
pub mod PlainForms
pub mod PlainUses
pub mod PlainSteps
pub mod OneMore
pub mod HeadersUse
pub mod ImportsKept
pub mod PlainImports
pub mod PlainRuns
pub mod LinkedAfter
pub mod PlainLinked
mod Example
mod BodyExample
mod ChainExample
mod PlainExample
pub mod StepLaws
pub mod QualifiedSteps
pub mod FormImports
pub mod WrittenLiteral
pub mod PlaceMeanings
