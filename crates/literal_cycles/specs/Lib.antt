pub mod Around
pub mod Stands
pub mod Uses
pub mod Runs
pub mod Laws
pub mod FormCycles
pub mod BodyForms
