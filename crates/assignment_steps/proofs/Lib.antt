pub mod TargetLemmas
pub mod SpecSteps
pub mod DefineSteps
pub mod UpdateSteps
pub mod IncrementSteps
pub mod DeclaredBlocks
