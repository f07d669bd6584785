-- What a step of a run keeps of the cycles of marked functions, also where it adds and removes imports, and packages
-- stand in another order after it (Go specification, Import declarations; Declarations and scope; Calls).
pub mod Orders
pub mod Steps
pub mod NewNames
pub mod Laws
