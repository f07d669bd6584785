pub mod DepthLemmas
