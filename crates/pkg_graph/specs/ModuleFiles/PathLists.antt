-- Lists of paths, and the number of a path in one: its place.
use Rattle.std.specs.Prelude.{◌≡◌, ℕ, suc, ◌<◌, Bool, bytes_eq, List, [], ◌∷◌, ◌++◌, length}
use Rattle.std.specs.Prelude.{if◌then◌else◌, slice_index_or, Option, Some, None}
use Rattle.std.specs.Option.{option_map}
use Rattle.std.specs.List.{list_any}

-- whether the path is one of these
abbrev pub has_path : List (List ℕ) → List ℕ → Bool
has_path paths path = list_any (bytes_eq path) paths

-- the place of the path among these
abbrev pub number_of : List (List ℕ) → List ℕ → Option ℕ
number_of [] path = None
number_of (p ∷ ps) path = if bytes_eq path p then Some 0 else option_map suc (number_of ps path)

-- these, and the path last unless it is among them
abbrev pub with_path : List (List ℕ) → List ℕ → List (List ℕ)
with_path paths path = if has_path paths path then paths else paths ++ path ∷ []

-- the path with this number
abbrev pub path_at : List (List ℕ) → ℕ → List ℕ
path_at paths k = slice_index_or paths k []

-- each path has its own number
abbrev pub AreDistinct : List (List ℕ) → Type 0
AreDistinct paths = (k : ℕ) → k < length paths → number_of paths (path_at paths k) ≡ Some k
