-- What steps keep of the cycles of marked functions (Go specification, Calls; Declarations and scope).
pub mod PackagesAlike
pub mod Steps
pub mod OwnConstants
pub mod Calls
pub mod Laws
