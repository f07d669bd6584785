pub mod Lemmas
pub mod RefusedLemmas
pub mod SelectedLemmas
