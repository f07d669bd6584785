-- What a token does to the counts of the open brackets.
use Rattle.std.specs.Prelude.{ℕ, List}
use Rattle.go_read.specs.SpellsWeight.{opened, closed, separated, counted}
use Rattle.go_nesting.specs.declared.counts.Nesting.{Nesting}
use Rattle.go_nesting.specs.declared.counts.Nesting.TheVariants.{Opens, Closes, Separates, Adds}

-- the counts after a token of this sort
abbrev pub after : Nesting → List ℕ → List ℕ
after Opens counts = opened counts
after Closes counts = closed counts
after Separates counts = separated counts
after Adds counts = counted counts
