-- Packages of the same declarations under other imports of their files, where keys of composite literals are told apart
-- from names: definitions and laws alone, without code (Go specification, Import declarations; Composite literals).
pub mod Keyed
pub mod Steps
pub mod Laws
pub mod StepLaws
