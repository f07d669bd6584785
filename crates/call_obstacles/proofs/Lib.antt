pub mod Refused
pub mod Joined
