pub mod Files
pub mod Declarations
pub mod Laws
