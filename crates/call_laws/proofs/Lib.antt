pub mod ValueLists
pub mod CallLemmas
