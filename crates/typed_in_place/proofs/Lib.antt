pub mod SameUses
pub mod TypingReplaced
pub mod Leaves
pub mod Rising
pub mod Rounds
pub mod Blocks
pub mod Phases
pub mod Headers
pub mod Collected
pub mod OneByOne
pub mod SamePrograms
pub mod Extremes
pub mod InitialReplaced
pub mod HeadersReplaced
pub mod WellTypedAlike
pub mod SettledNames
pub mod RoundsEnded
pub mod ImportRule
pub mod UsesKept
pub mod ImportsMoved
pub mod ProgramsReplaced
pub mod TypeLeaves
pub mod CalledLiteral
pub mod Bodiless
pub mod InitialBodiless
pub mod DeclaredConstants
pub mod DeclaredAliases
pub mod MethodsAside
pub mod DeclaredAliasStands
pub mod RecordedReplaced
pub mod SpansAside
mod Instance
mod Counterexamples
mod LeafInstances
mod AliasInstance
pub mod NameRounds
pub mod SameWorlds
