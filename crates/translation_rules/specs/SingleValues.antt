-- The term of each value in well-typed packages gives one value, and that of each call its results: definitions and
-- laws alone, without code.
pub mod Gives
pub mod Laws
