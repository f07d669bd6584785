-- A module as a run inlines it: what its new files are, and what they mean (golang.org/x/tools, analyzer inline; Go
-- specification, Packages; Program initialization and execution).
pub mod Modules
pub mod Laws
