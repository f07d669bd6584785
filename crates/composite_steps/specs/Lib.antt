pub mod Elements
pub mod BuiltinSteps
pub mod LiteralRules
