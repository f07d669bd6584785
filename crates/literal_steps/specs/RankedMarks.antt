pub mod Ranks
pub mod Calls
pub mod Free
pub mod Laws
