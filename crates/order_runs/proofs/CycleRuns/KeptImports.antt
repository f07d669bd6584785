-- What the file of a step imports once it is read again, and that its identifiers are the names of the same imports (Go
-- specification, Import declarations; Declarations and scope).
pub mod Keys
pub mod Settled
pub mod Fresh
pub mod Kept
pub mod Example
