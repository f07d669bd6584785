pub mod BoundLemmas
pub mod IndexLemmas
