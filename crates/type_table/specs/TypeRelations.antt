pub mod Environment
pub mod Inside
pub mod Kinds
pub mod Methods
pub mod Typed
