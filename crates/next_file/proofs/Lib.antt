pub mod Weights
pub mod Tried
pub mod Unread
pub mod Made
