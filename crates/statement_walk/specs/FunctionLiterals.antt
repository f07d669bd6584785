pub mod Params
pub mod Found
pub mod Laws
pub mod Uses
