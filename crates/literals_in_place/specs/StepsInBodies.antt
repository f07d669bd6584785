-- A use in the body of a function, as a run lists its parts, and the packages with the literal in its place (Go
-- specification, Blocks; Calls; Function declarations).
pub mod Once
pub mod Functions
pub mod NoConstants
pub mod Laws
