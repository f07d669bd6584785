-- Names of types in a file: each is a node of it, and another name of a type is put in its place by the edit that
-- writes it there (Go specification, Types; Source file organization). Definitions and laws alone, without code.
pub mod TypeWalk
pub mod BodyWalk
pub mod Listed
pub mod TopWalk
pub mod TypesPut
