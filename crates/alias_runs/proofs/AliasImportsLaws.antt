-- The imports after a step over an alias: they are right where the file of the use still uses its own (Go
-- specification, Import declarations; Alias declarations). Definitions and laws alone, without code.
pub mod StayRight
