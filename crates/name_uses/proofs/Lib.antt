pub mod LocalLemmas
pub mod StateLemmas
pub mod StateSteps
pub mod HeaderUses
