pub mod LiteralTypes
pub mod Walked
pub mod Members
pub mod UsesRepeated
pub mod ImportsUnused
pub mod UseSearch
