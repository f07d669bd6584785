-- A look at a file of a program tells of it what searches ask: definitions and laws alone, without code.
pub mod NamesStand
pub mod Files
