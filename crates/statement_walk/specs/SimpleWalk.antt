pub mod Simple
pub mod Targets
pub mod ConstantGroups
