pub mod Below
mod Example
pub mod Headers
pub mod Here
pub mod Mentioned
pub mod Only
pub mod Small
pub mod Translation
pub mod Typing
