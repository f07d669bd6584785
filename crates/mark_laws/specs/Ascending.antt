-- Numbers in ascending order.
use Rattle.std.specs.Prelude.{ℕ, ◌≤◌, List, [], ◌∷◌}

-- each of them is this one or more, and no less than the one before it
pub data AscendFrom : ℕ → List ℕ → Type 0 where
  none : {least : ℕ} → AscendFrom least []
  next : {least : ℕ} (x : ℕ) (xs : List ℕ) → least ≤ x → AscendFrom x xs → AscendFrom least (x ∷ xs)

-- none is less than the one before it
abbrev pub Ascend : List ℕ → Type 0
Ascend xs = AscendFrom 0 xs
