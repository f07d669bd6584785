pub mod TableLemmas
pub mod KnownLemmas
pub mod AttachLemmas
