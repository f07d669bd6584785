pub mod EachOnce
pub mod Reserved
pub mod Walk
pub mod LocalScopes
pub mod Around
