pub mod TokensLie
pub mod Ascents
pub mod Parts
pub mod Spelled
pub mod Files
mod Examples
