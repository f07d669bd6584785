pub mod Mentioned
pub mod Located
pub mod TermLeaves
pub mod TermParts
pub mod TermBodies
pub mod Specs
pub mod Terms
pub mod CallTerms
pub mod Declared
pub mod MeaningLaws
mod Instances
mod MethodInstance
pub mod FormInPlace
