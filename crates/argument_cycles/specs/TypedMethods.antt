pub mod Methods
pub mod Arguments
pub mod Laws
