pub mod DigitLemmas
pub mod WordLemmas
pub mod EscapeLemmas
pub mod UnitLemmas
pub mod FormLemmas
pub mod TokenForms
