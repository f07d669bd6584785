pub use Rattle.statement_walk.specs.Walked as ExprWalkWalked
pub mod Walked
pub mod Answers
pub mod Headers
pub mod Blocks
pub mod Arms
pub mod Cases
pub mod Ranges
pub mod Literals
