pub mod Few
pub mod Stay
pub mod Worlds
