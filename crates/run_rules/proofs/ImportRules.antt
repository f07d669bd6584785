mod SettledChecks
pub mod NeedLaws
pub mod Blanks
pub mod Chains
pub mod Ranges
pub mod SettledOrder
mod LaidChecks
mod NeedChecks
pub mod MeaningLaws
pub mod NeededMeans
pub mod NeededNames
pub mod LocalNames
pub mod UnusedLaws
