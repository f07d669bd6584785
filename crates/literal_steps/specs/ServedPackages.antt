pub mod NamedPackages
pub mod OpenTypes
pub mod ServedFunctions
pub mod Laws
