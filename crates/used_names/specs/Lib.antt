pub mod Uses
pub mod Walks
pub mod Stands
pub mod Laws
