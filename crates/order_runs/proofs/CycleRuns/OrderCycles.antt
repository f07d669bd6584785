-- What a step of a run keeps of the cycles of marked functions, also where it adds and removes imports, and packages
-- stand in another order after it (Go specification, Import declarations; Declarations and scope; Calls).
pub mod Swaps
pub mod Orders
pub mod Puts
pub mod PutsFound
pub mod PutsSame
pub mod PutsMoved
pub mod PutsDecl
pub mod StepAdded
pub mod StepSettled
pub mod ConstantSteps
pub mod FreshNames
pub mod NamesAdded
pub mod Example
