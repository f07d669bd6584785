-- What a step over a use of a constant changes of the uses of imports in its file: definitions and a law alone, without
-- code.
pub mod Around
pub mod Stays
pub mod Totals
pub mod Walk
pub mod DeclWalk
pub mod Outer
pub mod Unhit
pub mod Counted
pub mod Sums
pub mod Standing
pub mod Once
pub mod StepUses
pub mod Example
