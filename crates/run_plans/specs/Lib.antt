pub mod PlannedModules
pub mod InlinedPrograms
pub mod PlannedFiles
