pub mod Sure
pub mod SureOperators
pub mod NoCalls
pub mod Initials
pub mod Values
pub mod UsesInFunctions
pub mod NameForms
mod Example
