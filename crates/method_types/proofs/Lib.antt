pub mod TypeSteps
pub mod RefusedLaws
pub mod MethodNames
pub mod MethodSets
