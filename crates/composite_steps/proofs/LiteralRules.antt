pub mod DistinctLemmas
pub mod SetLemmas
pub mod ElementLemmas
pub mod StructLemmas
pub mod SliceLemmas
pub mod MapLemmas
