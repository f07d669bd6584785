-- A step of a run over a constant that is declared as a name, with the imports that its form needs added and those
-- removed that nothing needs: the packages after mean the same (Go specification, Constant declarations; Qualified
-- identifiers; Import declarations). Definitions and laws alone, without code.
pub mod TypedUnder
pub mod KnownThere
pub mod SwapsThere
pub mod NamedThere
pub mod Links
pub mod ImportingSteps
pub mod Example
