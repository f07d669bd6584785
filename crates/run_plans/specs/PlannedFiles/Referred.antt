-- Lists of references as values.
use Rattle.std.specs.Prelude.{ℕ, List, map}
use Rattle.std.specs.Borrow.{Bor}

-- what a list refers to
abbrev pub referred : List (Bor (List ℕ)) → List (List ℕ)
referred list = map (λ b. b.now) list
