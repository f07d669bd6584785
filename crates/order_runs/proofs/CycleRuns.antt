pub mod Paths
pub mod Leads
pub mod Runs
mod Example
pub mod StepCycles
pub mod ImportCycles
pub mod OrderCycles
pub mod OrderedSteps
pub mod FoundUses
pub mod BodiesThere
pub mod KeptImports
pub mod LedImports
pub mod LiteralCalls
