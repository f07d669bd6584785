pub mod OfSteps
pub mod Held
pub mod Laws
pub mod Flags
pub mod Filled
