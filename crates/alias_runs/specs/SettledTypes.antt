-- Which types a program declares is settled before its values are: the rounds that find constants, variables and
-- functions find no further type and refuse none (Go specification, Type declarations; Declarations and scope).
-- Definitions and laws alone, without code.
pub mod Laws
