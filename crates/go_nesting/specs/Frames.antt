-- The counts of the open brackets as they are kept: in an array up to a place, and their sum.
use Rattle.std.specs.Prelude.{◌≡◌, ℕ, zero, suc, ◌<◌, ◌≤◌, List, [], ◌∷◌, sum, slice_index}
use Rattle.go_nesting.specs.declared.counts.TheConstants.{MAX_LIMIT}
use Rattle.go_nesting.specs.declared.counts.Counts.{Counts}

-- the entries up to this place, the last first
unfoldable pub frames : List ℕ → ℕ → List ℕ
frames counts zero = slice_index counts zero ∷ []
frames counts (suc top) = slice_index counts (suc top) ∷ frames counts top

-- the counts of the open brackets, that of the innermost first
abbrev pub counts_of : Counts → List ℕ
counts_of c = frames c.counts c.top

-- each entry below this place counts a bracket
unfoldable pub Counted : List ℕ → ℕ → Type 0
Counted counts zero = Unit {0}
Counted counts (suc top) = (0 < slice_index counts top) × Counted counts top

-- The sum is that of the counts and within the greatest limit, and each open bracket counts in the one around it.
pub record IsSound (c : Counts) : Type 0 where
  pub total : c.total ≡ sum (counts_of c)
  pub small : c.total ≤ MAX_LIMIT
  pub counted : Counted c.counts c.top
