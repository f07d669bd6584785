-- Comments by where they begin (Go specification, Comments).
use Rattle.std.specs.Prelude.{ℕ, ◌<◌, ◌≤◌, Bool, false, nat_lt, List, [], ◌∷◌, length, slice_index_or}
use Rattle.go_tree.specs.declared.tokens.Comment.{Comment}

-- each of the first ones begins before the place
abbrev pub BeginBefore : ℕ → List Comment → ℕ → Type 0
BeginBefore at cs count = (j : ℕ) (d : Comment) → j < count → (slice_index_or cs j d).span.start < at

-- each of those behind them begins there or later
abbrev pub BeginFrom : ℕ → List Comment → ℕ → Type 0
BeginFrom at cs count =
    (j : ℕ) (d : Comment) → count ≤ j → j < length cs → at ≤ (slice_index_or cs j d).span.start

-- the first begins before the place
abbrev pub begins_before : ℕ → List Comment → Bool
begins_before at [] = false
begins_before at (c ∷ cs) = nat_lt c.span.start at
