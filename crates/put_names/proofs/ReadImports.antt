-- What the file of a step's use imports, as its new text reads: the specs that the step doesn't remove, if it adds
-- none; and so the same imports, where it removes none (Go specification, Import declarations). Definitions and laws
-- alone, without code.
pub mod Specs
pub mod ReadAgain
pub mod NamesKept
