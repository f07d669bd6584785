-- The order of packages: each time the one with the least path whose imports are all placed (Go specification, Program
-- initialization and execution: packages are sorted by import path).
use Rattle.std.specs.Prelude.{◌≡◌, ℕ, ◌==◌, Bool, true, false, bytes_eq, List, [], ◌∷◌, ◌++◌}
use Rattle.std.specs.Prelude.{Option, Some, None, slice_get}
use Rattle.std.specs.List.{list_any, list_all}
use Rattle.pkg_graph.specs.ModuleFiles.Pieces.{comes_before}
use Rattle.pkg_graph.specs.Package.{Package}
use Rattle.pkg_graph.specs.Graph.{imports_of}

module _ {S : Type 0} (ps : List (Package S)) where
  -- the package has this path
  abbrev pub has_path : List ℕ → Option (Package S) → Bool
  has_path path None = false
  has_path path (Some p) = bytes_eq path p.path

  -- one of the numbered packages has this path
  abbrev pub is_placed : List ℕ → List ℕ → Bool
  is_placed placed path = list_any (λ k. has_path path (slice_get ps k)) placed

  -- the package with this number isn't placed, and all that it imports is
  pub record IsReady (placed : List ℕ) (k : ℕ) (p : Package S) : Type 0 where
    pub is : slice_get ps k ≡ Some p
    pub open_ : list_any (λ j. j == k) placed ≡ false
    pub imports : list_all (is_placed placed) (imports_of p) ≡ true

  -- ready, and no other that is ready has a path before its path
  pub record IsNext (placed : List ℕ) (k : ℕ) : Type 0 where
    pub of : Package S
    pub ready : IsReady placed k of
    pub least : (j : ℕ) (p : Package S) → IsReady placed j p → comes_before p.path of.path ≡ true → ⊥

  -- the numbers that come after those that are placed
  pub data Follows : List ℕ → List ℕ → Type 0 where
    none : (placed : List ℕ) → ((k : ℕ) (p : Package S) → IsReady placed k p → ⊥) → Follows placed []
    next : (placed : List ℕ) (k : ℕ) (rest : List ℕ)
        → IsNext placed k → Follows (placed ++ k ∷ []) rest
        → Follows placed (k ∷ rest)

  -- The numbers of the packages in the order of their imports.
  abbrev pub IsDependencyOrder : List ℕ → Type 0
  IsDependencyOrder order = Follows [] order
