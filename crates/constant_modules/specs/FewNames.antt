-- How few different names a step avoids, in files of any declarations: definitions and laws alone, without code (Go
-- specification, Identifiers; Import declarations).
pub mod Laws
