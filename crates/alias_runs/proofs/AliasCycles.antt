-- A step of a run over an alias keeps which marked functions lie on a cycle: the type that it puts calls nothing (Go
-- specification, Alias declarations; Calls). Definitions and laws alone, without code.
pub mod FormsStand
pub mod AliasCycles
