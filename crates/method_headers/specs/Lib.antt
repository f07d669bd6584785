pub mod Methods
pub mod Laws
