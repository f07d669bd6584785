-- Where names that are declared around a place stand first among them.
use Rattle.std.specs.Prelude.{◌≡◌, ◌≤◌, ◌<◌, ℕ, List, [], ◌∷◌, Option, Some, None, bytes_eq}
use Rattle.std.specs.Prelude.{if◌then◌else◌, length, slice_index_or}

-- the place of a name
abbrev pub place_in : List (List ℕ × ℕ) → List ℕ → Option ℕ
place_in [] q = None
place_in (e ∷ es) q = if bytes_eq q e.0 then Some e.1 else place_in es q

-- The place is that of a name that is the same as the one at `later` and stands no later.
pub record IsFirstPlace (names : List (List ℕ)) (later : ℕ) (known : Option ℕ) : Type 0 where
  pub place : ℕ
  pub is : known ≡ Some place
  pub no_later : place ≤ later
  pub same : slice_index_or names place [] ≡ slice_index_or names later []

-- Of each name a place is known at which it stands, no later than anywhere.
pub record KnowsPlaces (names : List (List ℕ)) (places : List (List ℕ × ℕ)) : Type 0 where
  pub known : (p : ℕ) → p < length names → IsFirstPlace names p (place_in places (slice_index_or names p []))
