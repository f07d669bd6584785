-- Steps of a run over constants, and runs of them, that change imports and with them the order of packages, at the
-- places that the uses have once the imports are added: the program after each is well typed, and means what the one
-- before does (Go specification, Import declarations; Packages; Program initialization). Definitions and laws alone,
-- without code.
pub mod Nexts
pub mod Steps
pub mod Runs
pub mod Kept
