pub mod RangeLemmas
pub mod VariableLemmas
pub mod StoreLemmas
pub mod CaseSteps
