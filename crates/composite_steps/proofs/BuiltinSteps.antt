pub mod ArgumentLemmas
pub mod ValueLemmas
pub mod MakeLemmas
