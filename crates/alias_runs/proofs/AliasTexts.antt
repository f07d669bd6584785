-- Trees in which types are written otherwise: where the one has the name of an alias, the other has the text of its
-- type (Go specification, Alias declarations; Type identity; Conversions). They are typed alike, and mean the same.
pub mod RetypedTyping
pub mod RetypedTerms
pub mod RetypedHeaders
pub mod NewTypes
pub mod Instance
