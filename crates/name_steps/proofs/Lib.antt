pub mod EntityLemmas
pub mod ConstantLemmas
pub mod LocatedLemmas
