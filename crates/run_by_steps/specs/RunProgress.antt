-- How far a run has come, from step to step: definitions and laws alone, without code.
pub mod Laws
