pub mod NamedScopes
pub mod Table
pub mod Building
