pub use Rattle.value_rounds.proofs.UnderlyingTypes.ChainLaws
pub mod ChainSteps
pub mod DefineLaws
pub mod RowsKept
pub mod StepLaws
