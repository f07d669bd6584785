pub mod JumpLemmas
pub mod DistinctNames
pub mod JumpPlaces
pub mod UsedLocals
