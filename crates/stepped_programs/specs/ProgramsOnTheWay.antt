pub mod OnTheWay
pub mod Laws
