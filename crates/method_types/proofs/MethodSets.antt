pub mod SetLemmas
pub mod DeclareLemmas
pub mod PutLemmas
pub mod TableLemmas
pub mod Kept
