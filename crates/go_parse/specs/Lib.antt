pub mod Parts
pub mod Texts
pub mod Refusals
pub mod Sources
