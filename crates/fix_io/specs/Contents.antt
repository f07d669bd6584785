-- The bytes that a sink got, where it tells them.
use Rattle.std.specs.Prelude.{◌≡◌, ℕ, ◌≤◌, List, ◌++◌, length, take, Option}
use Rattle.std.specs.Option.{option_map}

-- what a sink got after further bytes, where it tells what it got
abbrev pub appended : Option (List ℕ) → List ℕ → Option (List ℕ)
appended before bytes = option_map (λ had. had ++ bytes) before

-- A front of the bytes was appended.
abbrev pub IsPartOut : Option (List ℕ) → Option (List ℕ) → List ℕ → Type 0
IsPartOut before now bytes = (n : ℕ) × (n ≤ length bytes) × (now ≡ appended before (take n bytes))
