pub mod NameLemmas
pub mod ImportLemmas
pub mod PlaceLemmas
