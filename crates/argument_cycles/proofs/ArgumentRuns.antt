pub mod ModuleRuns
