-- Packages of the same declarations under other imports, with keys told apart from names.
pub mod Initial
pub mod Headers
pub mod Lacks
pub mod Files
pub mod Codes
pub mod Stands
pub mod StandDecls
pub mod Bare
pub mod Free
pub mod KeysOf
pub mod DotWalk
pub mod DotDecls
pub mod Packages
pub mod Paths
pub mod Dotted
pub mod KeptNamed
pub mod StepKept
pub mod UsedMarked
mod Example
