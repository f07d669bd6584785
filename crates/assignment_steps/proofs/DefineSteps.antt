pub mod DefineLemmas
pub mod ShortLemmas
