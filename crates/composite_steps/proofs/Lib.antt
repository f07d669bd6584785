pub mod AlikeLemmas
pub mod ElementLemmas
pub mod BuiltinSteps
pub mod LiteralRules
