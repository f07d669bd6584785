pub mod UsedLemmas
pub mod PendingLemmas
pub mod ScopeLaws
