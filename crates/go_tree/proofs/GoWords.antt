pub mod RowLemmas
pub mod CodeLemmas
