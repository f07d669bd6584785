pub mod Pieces
pub mod PathLists
pub mod Selected
pub mod ModuleFile
pub mod Internal
pub mod ModuleFaults
pub mod Selection
