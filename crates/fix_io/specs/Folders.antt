-- Folders that a walk of a module doesn't enter.
use Rattle.std.specs.Prelude.{◌≡◌, ◌⊎◌, ℕ, List, ◌++◌, codes}

-- The name is `testdata` or `vendor`, or begins with `_` or `.`.
abbrev pub IsSkipped : List ℕ → Type 0
IsSkipped name = (name ≡ codes "testdata") ⊎ (name ≡ codes "vendor") ⊎ ((rest : List ℕ) × (name ≡ codes "_" ++ rest))
    ⊎ ((rest : List ℕ) × (name ≡ codes "." ++ rest))
