-- The identifiers of a file that reads: definitions and laws alone, without code.
pub mod Laws
