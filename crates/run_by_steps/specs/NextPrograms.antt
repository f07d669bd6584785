-- The program after a step, whose file is read from its new text: definitions and laws alone, without code.
pub mod Made
pub mod Laws
