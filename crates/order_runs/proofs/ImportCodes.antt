-- Packages of the same declarations under other imports of their files: they declare the same, are typed alike and make
-- the same kernel program (Go specification, Import declarations; Qualified identifiers; Declarations and scope).
-- Definitions and laws alone, without code.
pub mod HeadersCode
pub mod NamesImported
pub mod FreeWithin
pub mod BodiesBound
pub mod HeadersDeclare
pub mod HeadersUnder
pub mod LinkedBeside
pub mod PackagesCode
pub mod Examples
