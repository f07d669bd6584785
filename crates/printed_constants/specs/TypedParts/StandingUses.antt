pub mod Laws
pub mod ImportUses
pub mod LoneUses
pub mod ToldSteps
pub mod UsePlaces
