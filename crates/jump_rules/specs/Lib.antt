pub mod Labels
pub mod DistinctNames
pub mod UsedLocals
