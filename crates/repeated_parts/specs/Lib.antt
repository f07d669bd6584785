pub mod LiteralTypes
pub mod Flags
pub mod Along
pub mod Laws
pub mod UsesRepeated
pub mod ImportsUnused
pub mod UseSearch
