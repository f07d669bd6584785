pub mod EntityLemmas
pub mod BindLemmas
