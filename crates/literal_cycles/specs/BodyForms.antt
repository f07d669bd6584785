pub mod Uses
pub mod Arguments
pub mod Steps
pub mod Laws
