-- Imports that are used after a step over a constant.
pub mod Added
pub mod InPlace
pub mod Specs
pub mod Settled
