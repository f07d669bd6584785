pub mod Parts
pub mod Written
pub mod OpenTypes
pub mod Declared
pub mod KnownPlaces
pub mod Walk
pub mod FormNames
pub mod Served
pub mod ExampleModule
mod Example
mod MissingImport
mod CompositeAway
