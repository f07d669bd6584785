pub mod CodeLemmas
pub mod FrameLemmas
pub mod OverLemmas
