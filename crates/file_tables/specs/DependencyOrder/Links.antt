-- Imports between packages as numbers (Go specification, Import declarations).
use Rattle.std.specs.Prelude.{◌≡◌, ℕ, true, List, [], ◌∷◌, ◌++◌, map, length, Some, slice_get}
use Rattle.std.specs.Option.{option_to_list}
use Rattle.go_tree.specs.declared.spans.Span.{Span}
use Rattle.go_tree.specs.File.{ImportSpec}
use Rattle.pkg_graph.specs.ModuleFiles.PathLists.{number_of, has_path}
use Rattle.pkg_graph.specs.ImportOrder.Numbers.{row}
use Rattle.pkg_graph.specs.Package.{Package}
use Rattle.pkg_graph.specs.Graph.{imports_of}

-- the numbers that paths have among these, in their order
abbrev pub numbers_of : List (List ℕ) → List (List ℕ) → List ℕ
numbers_of paths [] = []
numbers_of paths (q ∷ qs) = option_to_list (number_of paths q) ++ numbers_of paths qs

-- the paths that specs name
abbrev pub spec_paths : {S : Type 0} → List (ImportSpec S) → List (List ℕ)
spec_paths ss = map (λ s. s.path) ss

-- Each import of a package names one of the packages.
abbrev pub AreNamed : List (Package Span) → Type 0
AreNamed ps =
    (k : ℕ) (p : Package Span) → slice_get ps k ≡ Some p → (q : List ℕ) → has_path (imports_of p) q ≡ true
    → has_path (map (λ r. r.path) ps) q ≡ true

-- These numbers come to the row, behind those that are there.
pub record AddsTo (k : ℕ) (numbers : List ℕ) (old new : List (List ℕ)) : Type 0 where
  pub size : length new ≡ length old
  pub here : row new k ≡ row old k ++ numbers
  pub others : (j : ℕ) → (j ≡ k → ⊥) → row new j ≡ row old j

-- For each package the numbers of those that it imports, in their order.
pub record AreLinksOf (ps : List (Package Span)) (paths : List (List ℕ)) (rows : List (List ℕ)) : Type 0 where
  pub size : length rows ≡ length ps
  pub each : (k : ℕ) (p : Package Span) → slice_get ps k ≡ Some p → row rows k ≡ numbers_of paths (imports_of p)
