-- What a function of the parser returned, seen beside what reading gives.
use Rattle.std.specs.Prelude.{◌≡◌, ◌<◌, ◌≤◌, length, Option, Some, None, Result, Ok, Err}
use Rattle.go_read.specs.SpellsTypes.{Lexemes}
use Rattle.go_productions.specs.declared.cursor.Cursor.{Cursor}
use Rattle.go_productions.specs.Cursors.{ahead}

-- it is what is read, seen by `see`, with the tokens after it, unless memory was refused
abbrev pub Gives : {X E A : Type 0} → (X → A) → Result (Option (X × Cursor)) E → Option (A × Lexemes) → Type 0
Gives see (Ok (Some x)) read = read ≡ Some (see x.0, ahead x.1)
Gives see (Ok None) read = read ≡ None
Gives see (Err e) read = Unit {0}

-- the tokens that are left are fewer
abbrev pub Shorter : {X E : Type 0} → Result (Option (X × Cursor)) E → Cursor → Type 0
Shorter (Ok (Some x)) tokens = length (ahead x.1) < length (ahead tokens)
Shorter (Ok None) tokens = Unit {0}
Shorter (Err e) tokens = Unit {0}

-- they are no more
abbrev pub Within : {X E : Type 0} → Result (Option (X × Cursor)) E → Cursor → Type 0
Within (Ok (Some x)) tokens = length (ahead x.1) ≤ length (ahead tokens)
Within (Ok None) tokens = Unit {0}
Within (Err e) tokens = Unit {0}
