-- Steps of a run over constants that add imports and remove those that nothing needs, in the same dependency order: the
-- program after each, whose file is read again, keeps its kernel program (Go specification, Constant declarations;
-- Import declarations; Program execution). Definitions and laws alone, without code.
pub mod Listed
pub mod PathsAlike
pub mod MembersMoved
pub mod ImportingNexts
