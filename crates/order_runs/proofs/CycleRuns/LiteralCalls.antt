pub mod Through
mod Example
