-- Packages of the same declarations under other imports of their files: they declare the same, are typed alike and make
-- the same kernel program (Go specification, Import declarations; Qualified identifiers; Declarations and scope).
-- Definitions and laws alone, without code.
pub mod PackagesMoved
pub mod Laws
