pub mod SimpleLemmas
pub mod TargetWalks
pub mod SeenStatements
pub mod ConstantGroups
