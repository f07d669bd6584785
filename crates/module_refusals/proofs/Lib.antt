pub mod FileLemmas
pub mod NameLemmas
pub mod RangeLemmas
pub mod ReasonLemmas
pub mod ModuleLemmas
pub mod OnceLemmas
