-- The imports of packages in their order, as the translation has them: definitions and laws alone, without code (Go
-- specification, Import declarations; Packages).
pub mod Laws
