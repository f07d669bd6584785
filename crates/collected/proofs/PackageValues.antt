pub mod Codes
pub mod CopiesSame
pub mod Looks
pub mod NameLooks
pub mod HeaderLooks
pub mod KeptLemmas
pub mod LeftLemmas
pub mod MarkLemmas
