pub mod Targets
pub mod SpecSteps
pub mod DefineSteps
