-- Steps over constants in programs as they stand settle their files and keep which marked functions lie on a cycle:
-- definitions and laws alone, without code (Go specification, Constant declarations; Import declarations; Calls).
pub mod BareDots
pub mod Ready
pub mod Settled
pub mod Spelled
