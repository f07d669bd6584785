pub mod Fields
pub mod Rules
pub mod Ruled
pub mod RuledPackages
pub mod Laws
pub mod DeclaredResults
pub mod SingleValues
pub mod SourceNames
