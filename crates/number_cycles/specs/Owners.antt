-- Numbers that links lead to, by the first from which they do (Go specification, Calls).
use Rattle.std.specs.Prelude.{◌≡◌, ℕ, ◌⊎◌, true, List, Option, Some, None, slice_get}
use Rattle.pkg_graph.specs.ImportOrder.Numbers.{Reaches, is_among, row}

-- the owner of a number, if it has one
abbrev pub owner_of : List (Option ℕ) → ℕ → Option ℕ
owner_of owners k = elim (slice_get owners k) [ None ↦ None | Some o ↦ o ]

-- Rows have the links of others the other way round.
abbrev pub AreBack : List (List ℕ) → List (List ℕ) → Type 0
AreBack links rows = (j k : ℕ) → is_among (row rows j) k ≡ true → is_among (row links k) j ≡ true

-- What is new in the rows of these numbers is this one.
abbrev pub AddsBack : List ℕ → ℕ → List (List ℕ) → List (List ℕ) → Type 0
AddsBack these k old new =
    (j i : ℕ) → is_among (row new j) i ≡ true
    → (is_among (row old j) i ≡ true) ⊎ ((is_among these j ≡ true) × (k ≡ i))

module _ (links : List (List ℕ)) where
  -- it is the number itself, or links lead to it
  abbrev pub IsFrom : ℕ → ℕ → Type 0
  IsFrom root m = (root ≡ m) ⊎ Reaches links root m

  -- so is each of a list
  abbrev pub AllFrom : ℕ → List ℕ → Type 0
  AllFrom root ms = (m : ℕ) → is_among ms m ≡ true → IsFrom root m

  -- links lead to each number from its owner
  abbrev pub AreOwned : List (Option ℕ) → Type 0
  AreOwned owners = (m root : ℕ) → owner_of owners m ≡ Some root → IsFrom root m

  -- links lead from each number to its owner
  abbrev pub AreOwnedBack : List (Option ℕ) → Type 0
  AreOwnedBack owners = (m root : ℕ) → owner_of owners m ≡ Some root → (m ≡ root) ⊎ Reaches links m root

-- One number has the owner in the first list that another has in the second.
pub record Meets (backs fronts : List (Option ℕ)) (m k : ℕ) : Type 0 where
  pub root : ℕ
  pub back : owner_of backs m ≡ Some root
  pub front : owner_of fronts k ≡ Some root
