pub mod FirstLemmas
pub mod DecimalLemmas
pub mod TableLemmas
pub mod AlikeLemmas
pub mod PrintedPackages
