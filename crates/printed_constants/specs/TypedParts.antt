pub mod Parts
pub mod Laws
pub mod ScopedParts
pub mod DottedImports
pub mod StandingUses
pub mod MarkedRuns
