pub mod KeptLemmas
pub mod AnswerLemmas
pub mod StoredLemmas
pub mod AddedLemmas
pub mod OperatorSteps
pub mod AccessSteps
