-- Steps over constants that are declared as names, of any packages, in declarations of every form, and runs of them.
pub mod FormsNamed
pub mod NewDeclared
pub mod OwnExpressions
pub mod UsesKnown
pub mod UsesAfter
pub mod Swaps
pub mod Rehomed
pub mod TypesFree
pub mod PartsFree
pub mod PartsKnown
pub mod HeadersUse
pub mod NamedImports
pub mod NamedLinked
pub mod StepsAnywhere
pub mod Puts
pub mod Added
pub mod NamesDeclared
pub mod Nexts
pub mod Steps
pub mod TakenRuns
pub mod TakenKept
pub mod HeadersParts
pub mod HeadersEnd
pub mod AddedParts
pub mod TakenMarks
mod Example
