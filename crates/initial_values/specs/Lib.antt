pub use Rattle.expr_walk.specs.Walked
pub mod Spelled
pub mod Steps
pub mod ValueEntities
pub mod ValuePlaces
pub mod ValueBlocks
