pub mod NamesAlike
pub mod FoundAlike
pub mod DeclarationsAlike
pub mod FoundBare
pub mod LookUps
pub mod Spanless
pub mod TypingMoved
pub mod FoundMoved
pub mod DeclarationsMoved
pub mod FoundSpans
pub mod PlacesAscend
mod Told
mod ExamplesOfOperators
mod ExamplesOfCalls
mod ExamplesOfLiterals
mod ExamplesOfStatements
mod ExamplesOfPackages
