pub mod LimitLemmas
pub mod ReadLemmas
pub mod SelectedLemmas
