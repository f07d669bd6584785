-- Packages that may take the place of others: every program over them shows the same, and ends or panics with the same
-- value, each within a stated budget of the other (Go specification, "Program execution").
use Rattle.std.specs.Prelude.{ℕ, ◌+◌, ◌*◌, IsTrue, List, ◌++◌, length}
use Rattle.std.specs.List.{list_any}
use Rattle.go_kernel.specs.Kernel.{ImportPath, FuncName, Covers}
use Rattle.go_translation.specs.Packages.{Package, is_main, are_well_typed, shown_by}

-- the packages, and those of their functions and methods that are marked for inlining
pub record Packages (S : Type 0) : Type 0 where
  pub members : List (Package S)
  pub marked : List FuncName

module _ {S : Type 0} where
  -- the packages are well typed
  abbrev pub WellTyped : Packages S → Type 0
  WellTyped P = IsTrue (are_well_typed P.members)

  -- one of the packages is a main package with this path
  abbrev pub HasMain : ImportPath → Packages S → Type 0
  HasMain main P = IsTrue (list_any (is_main main) P.members)

  -- the same with further packages, whose marks count nowhere
  abbrev pub with_further : Packages S → List (Package S) → Packages S
  with_further P Q = record P { members = P.members ++ Q }

  -- what the main package shows at a budget n among the first packages is covered by what it shows at (A + 1)(n + 1)
  -- among the others, for every list of choices
  abbrev pub IsCovered : ℕ → ImportPath → Packages S → Packages S → Type 0
  IsCovered A main P P' =
      (choices : List ℕ) (n : ℕ) →
      Covers (shown_by P.members main choices n) (shown_by P'.members main choices ((A + 1) * (n + 1)))

  -- For every list of further packages that type-check with the old ones: they type-check with the new ones, and each
  -- main package among them all shows with the new ones what it shows with the old ones, each within a budget of the
  -- other that grows with the number of marked functions and methods.
  pub record SameMeaning (P P' : Packages S) : Type 0 where
    pub typed : (Q : List (Package S)) → WellTyped (with_further P Q) → WellTyped (with_further P' Q)
    pub covered :
        (Q : List (Package S)) → WellTyped (with_further P Q) → (main : ImportPath) →
        HasMain main (with_further P Q) → IsCovered (length P.marked) main (with_further P Q) (with_further P' Q)
    pub covers :
        (Q : List (Package S)) → WellTyped (with_further P Q) → (main : ImportPath) →
        HasMain main (with_further P Q) → IsCovered (length P.marked) main (with_further P' Q) (with_further P Q)
