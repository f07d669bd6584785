-- What a step over a use of a constant changes of the uses of imports in its file: definitions and a law alone, without
-- code.
pub mod Parts
pub mod Steps
