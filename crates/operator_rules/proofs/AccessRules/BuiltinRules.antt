pub mod LengthLemmas
pub mod SizeLemmas
