-- What a body calls that is written elsewhere: the marked functions that it calls where it stands (Go specification,
-- Function literals; Calls; Declarations and scope).
pub mod There
pub mod Laws
