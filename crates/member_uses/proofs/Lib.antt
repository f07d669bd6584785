pub use Rattle.constant_steps.proofs.PlaceMeanings.PlacesMean
pub mod MembersMeant
pub mod ConstantsAlone
pub mod Sited
pub mod Stays
pub mod PossibleUses
