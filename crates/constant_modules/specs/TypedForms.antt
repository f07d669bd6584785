-- The file of a use of a constant with the form in its place, in a program of any declarations: laws alone, without code
-- (Go specification, Composite literals; For statements; Qualified identifiers).
pub mod Laws
