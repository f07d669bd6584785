pub use Rattle.universe_block.specs.declared.block.PredeclaredEntity
pub mod Meanings
pub mod Locals
pub mod Scopes
pub mod Known
pub mod TypeExprs
