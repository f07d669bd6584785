-- The imports that steps add can be written: definitions and laws alone, without code.
pub mod Laws
