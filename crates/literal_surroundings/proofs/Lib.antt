pub mod Kept
pub mod Walk
pub mod LiteralSteps
pub mod CallText
mod CallExample
