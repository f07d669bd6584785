pub mod KindsStay
pub mod NoCycles
pub mod Settled
pub mod Takes
pub mod Runs
