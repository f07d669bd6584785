pub mod SpecLemmas
