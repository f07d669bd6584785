-- Functions and methods that names mean have as many results in the program of packages as by their types: definitions
-- and laws alone, without code.
pub mod Laws
