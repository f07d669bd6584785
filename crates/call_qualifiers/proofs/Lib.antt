pub mod Numbers
pub mod Meant
pub mod Uses
pub mod Fields
pub mod Right
pub mod Parts
pub mod Joined
pub mod Puts
