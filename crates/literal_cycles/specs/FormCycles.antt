pub mod Bodies
pub mod Puts
pub mod Blocks
pub mod Runs
pub mod Laws
