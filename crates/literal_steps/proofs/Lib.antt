pub mod LocalValues
pub mod TypedWalk
pub mod PartsHere
pub mod BareValues
pub mod WalksBare
pub mod FirstFunctions
pub mod FunctionCode
pub mod NoObstacle
pub mod FilesKnown
pub mod BlankParams
pub mod FormBare
pub mod NamesServe
pub mod CallMeant
mod Example
mod AwayExample
pub mod MethodLiterals
pub mod RankedMarks
pub mod ServedPackages
pub mod AddedImports
