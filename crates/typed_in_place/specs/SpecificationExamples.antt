pub mod Sources
pub mod Setting
pub mod Constants
pub mod Identity
