-- Names without repetition.
use Rattle.std.specs.Prelude.{ℕ, List, [], ◌∷◌, ◌++◌, filter, not, bytes_eq, if◌then◌else◌}
use Rattle.go_tree.specs.GoWords.Tokens.Pieces.{is_among}

-- each name once, where it stands first
abbrev pub each_once : List (List ℕ) → List (List ℕ)
each_once [] = []
each_once (n ∷ ns) = n ∷ filter (λ m. not (bytes_eq m n)) (each_once ns)

-- these, and the name last unless it is among them
abbrev pub with_name : List (List ℕ) → List ℕ → List (List ℕ)
with_name names n = if is_among names n then names else names ++ n ∷ []
