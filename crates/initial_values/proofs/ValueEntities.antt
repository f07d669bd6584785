pub mod ValueLemmas
pub mod ListLemmas
pub mod SpecLemmas
pub mod SingleLemmas
