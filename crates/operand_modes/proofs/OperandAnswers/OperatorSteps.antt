pub mod AlikeLemmas
pub mod StepLemmas
