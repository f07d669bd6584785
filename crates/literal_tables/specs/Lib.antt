pub mod HasTypes
pub mod Laws
