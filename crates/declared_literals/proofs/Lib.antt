pub mod RowLemmas
pub mod TypesHeaded
pub mod Made
