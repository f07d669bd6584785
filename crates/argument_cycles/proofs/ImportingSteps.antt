pub mod OneUse
pub mod AddedSteps
