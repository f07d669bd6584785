pub mod ModuleLemmas
pub mod ScanLemmas
pub mod ScanningLemmas
pub mod TreeLemmas
