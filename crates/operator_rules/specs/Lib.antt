pub mod BasicTypes
pub mod Truths
pub mod Settling
pub mod Comparisons
pub mod Kept
pub mod Parts
pub mod Growth
pub mod AccessRules
