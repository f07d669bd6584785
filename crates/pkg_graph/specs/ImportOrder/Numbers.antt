-- The packages of a module by their numbers: a package has the number of its path's place in a list of distinct paths,
-- and `links` holds for each number those of the packages that it imports (Go specification, Import declarations;
-- Program initialization and execution).
use Rattle.std.specs.Prelude.{◌≡◌, ℕ, suc, ◌<◌, ◌==◌, ◌⊎◌, Bool, true, false, not, ◌&&◌}
use Rattle.std.specs.Prelude.{◌||◌, ◌+◌, List, [], ◌∷◌, ◌++◌, length, take, if◌then◌else◌}
use Rattle.std.specs.Prelude.{slice_index_or}
use Rattle.std.specs.List.{list_any, list_all}
use Rattle.pkg_graph.specs.ModuleFiles.Pieces.{comes_before}
use Rattle.pkg_graph.specs.ModuleFiles.PathLists.{has_path, path_at}

-- the number is one of these
abbrev pub is_among : List ℕ → ℕ → Bool
is_among ks k = list_any (λ j. j == k) ks

-- the numbers that belong to this one
abbrev pub row : List (List ℕ) → ℕ → List ℕ
row rows k = slice_index_or rows k []

-- the number at this place
abbrev pub number_in : List ℕ → ℕ → ℕ
number_in numbers place = slice_index_or numbers place 0

-- the mark of this number is set
abbrev pub is_marked : List Bool → ℕ → Bool
is_marked marks k = slice_index_or marks k false

module _ (links : List (List ℕ)) where
  -- each link is the number of a package
  abbrev pub AreLinks : Type 0
  AreLinks = (k m : ℕ) → is_among (row links k) m ≡ true → m < length links

  -- imports lead from the one to the other
  pub data Reaches : ℕ → ℕ → Type 0 where
    straight : (i j : ℕ) → is_among (row links i) j ≡ true → Reaches i j
    over : (i k j : ℕ) → is_among (row links i) k ≡ true → Reaches k j → Reaches i j

  -- the package isn't placed, and all that it imports is
  pub record IsReadyNumber (placed : List ℕ) (k : ℕ) : Type 0 where
    pub within : k < length links
    pub open_ : is_among placed k ≡ false
    pub imports : list_all (is_among placed) (row links k) ≡ true

  module _ (paths : List (List ℕ)) where
    -- ready, and no other that is ready has a path before its path
    pub record IsNextNumber (placed : List ℕ) (k : ℕ) : Type 0 where
      pub ready : IsReadyNumber placed k
      pub least : (j : ℕ) → IsReadyNumber placed j → comes_before (path_at paths j) (path_at paths k) ≡ true → ⊥

    -- the numbers that come after those that are placed
    pub data FollowsNumbers : List ℕ → List ℕ → Type 0 where
      none : (placed : List ℕ) → ((k : ℕ) → IsReadyNumber placed k → ⊥) → FollowsNumbers placed []
      next : (placed : List ℕ) (k : ℕ) (rest : List ℕ)
          → IsNextNumber placed k → FollowsNumbers (placed ++ k ∷ []) rest
          → FollowsNumbers placed (k ∷ rest)

-- ---- while the packages are placed

module _ (links : List (List ℕ)) (marks : List Bool) (waiting : List (List ℕ)) where
  -- the package waits for one that it imports and that isn't placed
  pub record Waits (k : ℕ) : Type 0 where
    pub for_ : ℕ
    pub link : is_among (row links k) for_ ≡ true
    pub open_ : is_marked marks for_ ≡ false
    pub waits : is_among (row waiting for_) k ≡ true

  -- the package may be tried next, or waits
  abbrev pub IsKept : List (List ℕ) → List (List ℕ) → ℕ → Type 0
  IsKept paths tried k = (has_path tried (path_at paths k) ≡ true) ⊎ Waits k

  -- each package that isn't placed
  abbrev pub AreKept : List (List ℕ) → List (List ℕ) → Type 0
  AreKept paths tried = (k : ℕ) → k < length paths → is_marked marks k ≡ false → IsKept paths tried k

-- not marked, and all that it imports is
pub record IsOpen (links : List (List ℕ)) (marks : List Bool) (k : ℕ) : Type 0 where
  pub within : k < length links
  pub open_ : is_marked marks k ≡ false
  pub imports : list_all (is_marked marks) (row links k) ≡ true

-- the marks of these numbers are set
abbrev pub AreMarked : List Bool → List ℕ → Type 0
AreMarked marks numbers = list_all (is_marked marks) numbers ≡ true

-- the imports of each package before its place are marked
pub record ArePlaces (links : List (List ℕ)) (marks : List Bool) (places : List ℕ) : Type 0 where
  pub size : length places ≡ length links
  pub before : (k : ℕ) → AreMarked marks (take (number_in places k) (row links k))

-- no open package has a path before this one
abbrev pub IsLeastOpen : List (List ℕ) → List Bool → List (List ℕ) → List ℕ → Type 0
IsLeastOpen links marks paths path = (j : ℕ) → IsOpen links marks j → comes_before (path_at paths j) path ≡ true → ⊥

-- each package that isn't placed, but for one
abbrev pub AreKeptBut : List (List ℕ) → List Bool → List (List ℕ) → List (List ℕ) → List (List ℕ) → ℕ → Type 0
AreKeptBut links marks waiting paths tried k =
    (j : ℕ) → j < length paths → is_marked marks j ≡ false → (j ≡ k → ⊥) → IsKept links marks waiting paths tried j

-- those that are placed are marked
abbrev pub MarksAre : List Bool → List ℕ → Type 0
MarksAre marks placed = (k : ℕ) → is_marked marks k ≡ is_among placed k

-- how many aren't marked
abbrev pub unmarked : List Bool → ℕ
unmarked [] = 0
unmarked (b ∷ bs) = if b then unmarked bs else suc (unmarked bs)

-- What is marked is what imports lead to from one package, as far as it was walked; `walk` is to be walked yet.
pub record IsWalk (links : List (List ℕ)) (start : ℕ) (marks : List Bool) (walk : List ℕ) : Type 0 where
  pub marked : (m : ℕ) → is_marked marks m ≡ true → Reaches links start m
  pub walked : (m : ℕ) → is_among walk m ≡ true → (m ≡ start) ⊎ (is_marked marks m ≡ true)
  pub onward : (k m : ℕ)
      → (k ≡ start) ⊎ (is_marked marks k ≡ true) → is_among (row links k) m ≡ true
      → (is_among walk k ≡ true) ⊎ (is_marked marks m ≡ true)

-- how many are yet to be walked, and may be yet
abbrev pub left_to_walk : List ℕ → List Bool → ℕ
left_to_walk walk marks = length walk + unmarked marks

-- to those that are to be walked come the ones that weren't marked
abbrev pub AddsUnmarked : (ℕ → Bool) → List Bool → List ℕ → List ℕ → Type 0
AddsUnmarked these marks old new = (m : ℕ) → is_among new m ≡ is_among old m || (these m && not (is_marked marks m))

-- no package on a cycle has a path before that of this one
abbrev pub IsLeast : List (List ℕ) → List (List ℕ) → ℕ → Type 0
IsLeast links paths k = (j : ℕ) → Reaches links j j → comes_before (path_at paths j) (path_at paths k) ≡ true → ⊥

-- what waits in the one rows waits in the others
abbrev pub RowsGrow : List (List ℕ) → List (List ℕ) → Type 0
RowsGrow old new = (m j : ℕ) → is_among (row old m) j ≡ true → is_among (row new m) j ≡ true

-- each package with this path that isn't placed waits
abbrev pub PathWaits : List (List ℕ) → List Bool → List (List ℕ) → List (List ℕ) → List ℕ → Type 0
PathWaits links marks waiting paths path =
    (j : ℕ) → j < length paths → path_at paths j ≡ path → is_marked marks j ≡ false → Waits links marks waiting j

-- the paths of all packages that aren't placed are to be tried
abbrev pub AreTried : List Bool → List (List ℕ) → List (List ℕ) → Type 0
AreTried marks paths tried =
    (k : ℕ) → k < length paths → is_marked marks k ≡ false → has_path tried (path_at paths k) ≡ true

-- the paths of those that waited are to be tried
abbrev pub AreWoken : List ℕ → List (List ℕ) → List (List ℕ) → Type 0
AreWoken row paths tried = (j : ℕ) → is_among row j ≡ true → j < length paths → has_path tried (path_at paths j) ≡ true
