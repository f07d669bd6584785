pub mod Used
pub mod Pending
pub mod Laws
pub mod Walked
