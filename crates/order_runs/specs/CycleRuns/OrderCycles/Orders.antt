-- Packages of which each stands in the dependency order, as where imports lead to no cycle (Go specification, Import
-- declarations; Program initialization).
use Rattle.std.specs.Prelude.{◌≡◌, ℕ, ◌==◌, true, List, Some, slice_get}
use Rattle.std.specs.List.{list_any}
use Rattle.pkg_graph.specs.Package.{Package}
use Rattle.run_rules.specs.Programs.{numbered, dependency_order}
use Rattle.typed_in_place.specs.ProgramsAlike.{OneByOne}
use Rattle.order_runs.specs.CycleRuns.ImportCycles.OtherImports.{PackageUnder}

module _ {S : Type 0} where
  -- each package's number stands in the dependency order
  abbrev pub AllOrdered : List (Package S) → Type 0
  AllOrdered ps =
      (k : ℕ) (p : Package S) → slice_get ps k ≡ Some p → list_any (λ j. j == k) (dependency_order ps) ≡ true

  -- packages with the same names and the same declarations one by one, where each name that these look up is that of
  -- the same import, or of none
  abbrev pub PackagesUnder : List (Package S) → List (Package S) → Type 0
  PackagesUnder ps qs = OneByOne (PackageUnder ps qs) (numbered ps) (numbered qs)
