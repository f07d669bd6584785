-- The imports of a module's files and of a run's steps, as the calls for imports are told of them: definitions and laws
-- alone, without code.
pub mod GraphNames
pub mod Steps
