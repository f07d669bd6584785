-- Names in packages whose files read from texts: each is an identifier, so none is a temporary or a result slot of the
-- translation. Definitions and laws alone, without code.
pub mod FirstLetters
pub mod FormedNames
pub mod ReadNames
pub mod NoIdentifiers
