pub mod HeaderLemmas
pub mod StartLemmas
pub mod FoundSame
pub mod WorldLemmas
pub mod TableLemmas
pub mod WalkedStatements
pub mod WalkedFiles
mod WalkedExample
