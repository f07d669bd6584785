pub mod PartLemmas
pub mod MethodLemmas
pub mod ReadyLemmas
pub mod TableLemmas
