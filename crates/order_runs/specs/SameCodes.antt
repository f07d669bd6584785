-- Translation where the same is found: it reads a world, and the import paths of packages, by look-ups alone, so
-- packages are one program in whatever order they stand (Go specification, Packages; Program initialization; Program
-- execution). Definitions and laws alone, without code.
pub mod SamePaths
pub mod Orders
pub mod Laws
