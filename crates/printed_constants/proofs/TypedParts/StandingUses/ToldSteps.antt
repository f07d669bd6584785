-- What the code that finds unused imports and makes edits asks of a step over a constant, before its new text is read:
-- definitions and laws alone, without code (Go specification, Constant declarations; Import declarations).
pub mod Edited
