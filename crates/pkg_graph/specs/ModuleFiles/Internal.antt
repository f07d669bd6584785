-- Internal packages (the go command's documentation, Internal Directories).
use Rattle.std.specs.Prelude.{◌≡◌, ℕ, zero, suc, ◌+◌, ◌-◌, ◌<◌, ◌==◌, Bool, true, ◌&&◌}
use Rattle.std.specs.Prelude.{◌||◌, not, nat_eq, bytes_eq, List, [], ◌∷◌, length, take, drop, codes}
use Rattle.std.specs.List.{starts_with}

-- the path ends here, or a `/` stands here
abbrev pub begins_element : List ℕ → Bool
begins_element [] = true
begins_element (b ∷ bs) = b == 47

-- at the start of the path, or behind a `/`
abbrev pub is_start : List ℕ → ℕ → Bool
is_start path k = k == 0 || begins_element (drop (k - 1) path)

-- an element `internal` of the path begins at this byte
abbrev pub is_internal_at : List ℕ → ℕ → Bool
is_internal_at path k =
    is_start path k && (starts_with nat_eq (drop k path) (codes "internal") && begins_element (drop (k + 8) path))

-- `from` is the path before the element that begins at this byte, or lies below it; every path lies below the empty one
abbrev pub lies_within : List ℕ → List ℕ → ℕ → Bool
lies_within from path k = k == 0 || (bytes_eq from (take (k - 1) path) || starts_with nat_eq from (take k path))

-- no element `internal` that forbids the import begins at this byte
unfoldable pub passes : List ℕ → List ℕ → ℕ → Bool
passes from path k = not (is_internal_at path k) || lies_within from path k

-- it holds of each number below this one
abbrev pub all_below : (ℕ → Bool) → ℕ → Bool
all_below p zero = true
all_below p (suc k) = p k && all_below p k

-- The package at `from` may import the path: for each element `internal` of the path, `from` is the path before that
-- element or lies below it.
abbrev pub may_import : List ℕ → List ℕ → Bool
may_import from path = all_below (passes from path) (length path)

-- the same for each byte of the path
abbrev pub MayImport : List ℕ → List ℕ → Type 0
MayImport from path = (k : ℕ) → k < length path → passes from path k ≡ true
