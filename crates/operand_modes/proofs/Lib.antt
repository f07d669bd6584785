pub mod TupleLemmas
pub mod SpreadLemmas
pub mod AssignedLemmas
pub mod FitsLemmas
pub mod OperandLaws
pub mod CheckerTables
pub mod OperandAnswers
