pub use Rattle.value_rounds.specs.UnderlyingTypes.Chains
pub mod Defining
pub mod Steps
