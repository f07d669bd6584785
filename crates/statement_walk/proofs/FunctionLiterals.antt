pub mod ParamLemmas
pub mod LiteralLemmas
pub mod RefusedLiterals
pub mod EndLemmas
pub mod LiteralUses
pub mod NoLiterals
pub mod TypedUses
