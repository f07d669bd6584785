pub mod Along
pub mod Callees
pub mod Walk
pub mod UsesStand
pub mod NothingAdded
pub mod Agreed
pub mod LiteralLed
pub mod CalleesStay
pub mod PlacesOut
pub mod SitesOut
pub mod ThroughLiterals
pub mod LiteralRuns
mod Example
pub mod FormCycles
pub mod BodyForms
