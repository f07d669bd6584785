pub mod ExprArms
pub mod ListArms
pub mod ElementArms
pub mod LiteralLemmas
