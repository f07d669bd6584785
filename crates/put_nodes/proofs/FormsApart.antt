-- What is written behind a token, in a text that reads as a file: definitions and laws alone, without code (Go
-- specification, Tokens; Operators and punctuation).
pub mod Beginnings
pub mod Behind
pub mod Apart
pub mod TypesApart
pub mod Examples
