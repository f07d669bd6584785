-- Which marked functions are recursive, by links between numbers. The law is the contract of a function of this crate
-- (Go specification, Calls).
use Rattle.std.specs.Prelude.{◌≡◌, ◌↔◌, ℕ, true, List, Some, slice_get}
use Rattle.pkg_graph.specs.Package.{Package}
use Rattle.pkg_graph.specs.ImportOrder.Numbers.{Reaches}
use Rattle.run_rules.specs.Cycles.{is_recursive}
use Rattle.run_rules.specs.Sites.{MarkRef}
use Rattle.mark_graphs.specs.Numbers.{AreLinksOf}

-- A listed function is recursive exactly where links lead from its number back to it.
abbrev pub RecursiveReachThemselves : Type 0 → Type 0
RecursiveReachThemselves S =
    (ps : List (Package S)) (marks functions : List MarkRef) (links : List (List ℕ))
    → AreLinksOf ps marks functions links → (k : ℕ) (m : MarkRef) → slice_get functions k ≡ Some m
    → (is_recursive ps marks m ≡ true) ↔ Reaches links k k
