-- What other imports of a file keep of the calls of marked functions (Go specification, Import declarations;
-- Declarations and scope; Calls).
pub mod NamesRead
pub mod LookedUp
pub mod OtherImports
pub mod ImportSteps
pub mod Laws
