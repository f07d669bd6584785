-- A use of a marked constant that is kept stays so while what constant_forms is told of it stays: definitions and laws
-- alone, without code.
pub mod Laws
