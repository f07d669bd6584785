-- Ranks of packages: no import leads to a lower one, so a package lies on no cycle where each of its imports leads to a
-- higher one (Go specification, Import declarations).
use Rattle.std.specs.Prelude.{◌≡◌, ℕ, Bool, true, nat_le, nat_lt, List, slice_index_or}
use Rattle.pkg_graph.specs.ImportOrder.Numbers.{is_among, row}

-- the rank of the package with this number
abbrev pub rank_at : List ℕ → ℕ → ℕ
rank_at ranks k = slice_index_or ranks k 0

-- the package has this rank or a higher one
abbrev pub is_from : List ℕ → ℕ → ℕ → Bool
is_from ranks rank k = nat_le rank (rank_at ranks k)

-- the package has a higher rank
abbrev pub is_above : List ℕ → ℕ → ℕ → Bool
is_above ranks rank k = nat_lt rank (rank_at ranks k)

-- No import leads to a lower rank.
abbrev pub NoneDescends : List (List ℕ) → List ℕ → Type 0
NoneDescends links ranks = (k m : ℕ) → is_among (row links k) m ≡ true → is_from ranks (rank_at ranks k) m ≡ true
