pub mod Walk
pub mod Decls
pub mod ScopedParts
pub mod DottedImports
pub mod StandingUses
pub mod MarkedRuns
