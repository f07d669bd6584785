-- The imports of a module's files and of a run's steps, as the calls for imports are told of them: definitions and laws
-- alone, without code.
pub mod GraphImports
pub mod StepImports
pub mod PlacesBound
pub mod IdentifiersWith
pub mod StepNames
pub mod NamesNeeded
