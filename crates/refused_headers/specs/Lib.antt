pub use Rattle.finite_types.specs.RefusedTypes.Refusals
pub mod Refused
