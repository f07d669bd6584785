pub mod Uses
pub mod Told
