pub mod Methods
pub mod Steps
pub mod Laws
pub mod MethodNames
pub mod MethodSets
