-- Steps along numbers, from each to the one that stands at its place in a list.
use Rattle.std.specs.Prelude.{ℕ, zero, suc, List, slice_index_or}

-- the number at a place, or the place itself where there is none
abbrev pub number_at : List ℕ → ℕ → ℕ
number_at numbers t = slice_index_or numbers t t

-- where so many steps lead
abbrev pub after_steps : ℕ → List ℕ → ℕ → ℕ
after_steps zero numbers t = t
after_steps (suc k) numbers t = after_steps k numbers (number_at numbers t)
