pub mod Headers
pub mod Walked
pub mod Receivers
pub mod Starts
pub mod Laws
