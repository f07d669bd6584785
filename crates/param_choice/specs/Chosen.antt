-- A set of a call's parameters, kept as one truth value a parameter.
use Rattle.std.specs.Prelude.{ℕ, Bool, false, List, slice_index_or}

-- whether parameter i is in the set
abbrev pub has : List Bool → ℕ → Bool
has kept i = slice_index_or kept i false
