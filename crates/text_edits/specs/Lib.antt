pub mod Spans
pub mod Order
pub mod Applied
pub mod Keeps
pub mod Places
pub mod InTurn
pub mod Joined
