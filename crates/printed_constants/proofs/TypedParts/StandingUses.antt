pub mod Named
pub mod Once
pub mod ImportUses
pub mod LoneUses
pub mod ToldSteps
pub mod UsePlaces
