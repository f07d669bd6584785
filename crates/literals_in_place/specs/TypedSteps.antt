-- Uses of functions in the bodies of functions of well-typed packages, and what typing gives at them (Go specification,
-- Calls; Function declarations; Program execution).
pub mod Uses
pub mod Laws
