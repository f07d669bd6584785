pub mod CaseLemmas
pub mod ValueLemmas
