pub mod TreeLemmas
pub mod HeaderLemmas
pub mod PlaceLemmas
pub mod ImportLemmas
