-- Uses of functions in the bodies of functions of well-typed packages, and what typing gives at them.
pub mod Operands
pub mod Told
pub mod Constants
pub mod Walk
pub mod Bodies
pub mod Uses
pub mod Shows
mod Example
