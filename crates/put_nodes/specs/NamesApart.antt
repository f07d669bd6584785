-- What stands before a name and behind what is called, in a text that reads as a file: definitions and laws alone,
-- without code (Go specification, Tokens; Calls).
pub mod Laws
