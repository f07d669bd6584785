-- What steps keep of the cycles of marked functions (Go specification, Calls; Declarations and scope).
pub mod AlikeNames
pub mod AlikeStay
pub mod StepAlike
pub mod Orders
pub mod SpansMoved
pub mod PutProgram
pub mod WorldStays
pub mod Kept
pub mod Led
pub mod CallsKept
pub mod OwnKept
pub mod Examples
pub mod AliasExample
pub mod QualifiedExample
