pub mod Laws
pub mod FirstUses
pub mod Runs
