-- What reads the statements of a body (Go specification, Blocks).
use Rattle.std.specs.Prelude.{◌≡◌, ◌≤◌, ◌<◌, ℕ, length, drop, Option, Some, None, Result, Ok, Err}
use Rattle.std.specs.Fn.{Shared}
use Rattle.go_tree.specs.declared.stmts.StmtList.{StmtList}
use Rattle.go_tree.specs.View.{stmts_of}
use Rattle.go_read.specs.SpellsSpans.{span_to}
use Rattle.go_read.specs.Goals.{read_stmts}
use Rattle.go_read.specs.Reading.{at}
use Rattle.go_productions.specs.declared.cursor.Cursor.{Cursor}
use Rattle.go_expressions.specs.declared.bodies.Place.{Place}
use Rattle.go_productions.specs.Cursors.{ahead}

-- the statements that stand first, and how many tokens they take, unless memory was refused
abbrev pub StmtsTaken : {E : Type 0} → Cursor → Result (Option (StmtList × ℕ)) E → Type 0
StmtsTaken tokens (Ok (Some x)) = (x.1 ≤ length (ahead tokens))
    × (at span_to read_stmts (ahead tokens) ≡ Some (stmts_of x.0, drop x.1 (ahead tokens)))
StmtsTaken tokens (Ok None) = at span_to read_stmts (ahead tokens) ≡ None
StmtsTaken tokens (Err e) = Unit {0}

-- fewer tokens than these may be passed, and the answer is that
abbrev pub ReadsBelow :
    {F E : Type 0} → Shared F (Cursor × Unit {0}) (Result (Option (StmtList × ℕ)) E) → F → ℕ → Type 0
ReadsBelow {E = E} calls read limit = (tokens : Cursor) → length (ahead tokens) < limit → calls.pre read (tokens, tt)
    × ((r : Result (Option (StmtList × ℕ)) E) → calls.post read (tokens, tt) r → StmtsTaken tokens r)

-- what a place hands on reads the statements of bodies that begin after it
abbrev pub Ready : {F E : Type 0} → Shared F (Cursor × Unit {0}) (Result (Option (StmtList × ℕ)) E) → Place F → Type 0
Ready calls place = ReadsBelow calls place.read.now place.limit × (length (ahead place.at) ≤ place.limit)
