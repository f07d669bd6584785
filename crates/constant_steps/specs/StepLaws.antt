-- What one step of a run over a constant keeps: the program with the constant's text in a use's place is typed as it
-- was, and means the same (Go specification, Constant declarations).
pub mod Stands
pub mod DeclStands
pub mod ConstantSteps
pub mod Answered
pub mod NamesOutside
pub mod ConstantUses
pub mod Swaps
pub mod SwapUses
pub mod SwapPrograms
pub mod PartsTyped
pub mod ConstantSwaps
pub mod Kept
pub mod ConstantRuns
pub mod Laws
