mod Shown
mod ShownOrder
mod ShownNumbers
mod ShownValues
mod ShownCollections
mod ShownControl
mod ShownRanges
mod ShownDefers
mod ShownPanics
mod ShownFunctions
mod ShownPackages
mod ShownMixed
mod ShownRandom
mod ShownSpecification
mod SmallBare
pub mod MentionsBare
pub mod TranslationBare
pub mod PackagesBare
pub mod PackageBudgets
pub mod HeldVariables
pub mod Ranks
pub mod Widths
pub mod OneValue
pub mod TypedWidths
pub mod ReturnedWidths
pub mod AgreeingHere
pub mod SmallAlike
pub mod MentionsAlike
pub mod TranslationAlike
pub mod SwappedAlike
pub mod SwappedProgram
mod SwappedTries
pub mod Scopes
pub mod ScopesOf
pub mod TranslationScoped
pub mod ProgramScoped
pub mod Asking
pub mod NamesFound
pub mod TranslationAsking
pub mod AskedFor
pub mod DeclaredKnown
pub mod ProgramAsking
pub mod TranslationLaws
pub mod Keeping
pub mod KeptTerms
pub mod KeptPlaces
pub mod KeptDeclarations
pub mod KeptBodies
pub mod TranslationKept
pub mod ProgramKept
mod TermClasses
mod TermShapes
pub mod SwappedMeaning
mod PackagesInUse
mod WidthsInUse
