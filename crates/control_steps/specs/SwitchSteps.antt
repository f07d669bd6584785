pub mod Tags
pub mod Cases
