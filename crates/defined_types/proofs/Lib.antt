pub mod TypeSteps
pub mod OfPrograms
