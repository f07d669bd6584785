pub mod AnyHome
pub mod Alike
pub mod Growing
pub mod ComparableTypes
pub mod FiniteTypes
pub mod DefinedAlike
pub mod RelationsAlike
pub mod OperandsAlike
pub mod OperatorsAlike
pub mod PrimaryAlike
pub mod LiteralsAlike
pub mod TypeNamesAlike
pub mod DeclarationsAlike
pub mod StatementsAlike
pub mod TypingAlike
pub mod RecordedAlike
pub mod InitialAlike
pub mod HeadersAlike
pub mod RefusedAlike
pub mod ProgramsAlike
pub mod TypesKept
pub mod ChainsEnd
pub mod WellTypedAlone
pub mod InOrder
mod Example
mod RecordedGroup
