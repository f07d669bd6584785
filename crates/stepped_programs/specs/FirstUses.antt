pub mod First
pub mod Step
pub mod StepLaws
pub mod Laws
