-- Imports between the packages of a module, and what is wrong with them (Go specification, Import declarations;
-- Package clause; Program initialization and execution).
use Rattle.std.specs.Prelude.{◌≡◌, ℕ, suc, Bool, true, not, ◌&&◌, bytes_eq, List, [], ◌∷◌, ◌++◌}
use Rattle.std.specs.Prelude.{map, find, Contains, Option, Some, None, codes}
use Rattle.std.specs.List.{list_any}
use Rattle.go_tree.specs.declared.spans.Span.{Span}
use Rattle.go_tree.specs.File.{ImportSpec}
use Rattle.pkg_graph.specs.ModuleFiles.Pieces.{comes_before}
use Rattle.pkg_graph.specs.Package.{SourceTree, Package, import_specs, home_of, package_of, packages_of}
use Rattle.pkg_graph.specs.ModuleFiles.Internal.{may_import}

-- an import spec with the number of its file and the path of the package that imports
pub record ImportAt (S : Type 0) : Type 0 where
  pub file : ℕ
  pub from : List ℕ
  pub spec : ImportSpec S

module _ {S : Type 0} where
  -- ---- the import graph

  -- the paths that files import, in their order
  abbrev pub files_import : List (SourceTree S) → List (List ℕ)
  files_import [] = []
  files_import (f ∷ fs) = map (λ s. s.path) (import_specs f.tree) ++ files_import fs

  -- the paths that a package imports
  abbrev pub imports_of : Package S → List (List ℕ)
  imports_of p = files_import p.files

  -- one of the packages, with the path `from`, imports the path `to`
  pub data Imports (ps : List (Package S)) : List ℕ → List ℕ → Type 0 where
    imported : (p : Package S) (to : List ℕ) → Contains ps p → Contains (imports_of p) to → Imports ps p.path to

  -- imports lead from the one path to the other
  pub data Leads (ps : List (Package S)) : List ℕ → List ℕ → Type 0 where
    directly : {from to : List ℕ} → Imports ps from to → Leads ps from to
    over : {from next to : List ℕ} → Imports ps from next → Leads ps next to → Leads ps from to

  -- The path lies on a cycle of imports, and none that does comes before it.
  pub record IsLeastOnCycle (ps : List (Package S)) (path : List ℕ) : Type 0 where
    pub lies : Leads ps path path
    pub least : (other : List ℕ) → Leads ps other other → comes_before other path ≡ true → ⊥

  -- ---- what is wrong

  -- the file's package name isn't that of the first file of its folder
  abbrev pub is_mixed : List ℕ → List (SourceTree S) → SourceTree S → Bool
  is_mixed home files f = not (bytes_eq f.tree.package_name.name (package_of home files (home_of home f)).name)

  -- files with their numbers
  abbrev pub numbered_files : ℕ → List (SourceTree S) → List (ℕ × SourceTree S)
  numbered_files k [] = []
  numbered_files k (f ∷ fs) = (k, f) ∷ numbered_files (suc k) fs

  -- the first file with another package name than the first of its folder
  abbrev pub first_mixed : List ℕ → List (SourceTree S) → Option (ℕ × SourceTree S)
  first_mixed home files = find (λ x. is_mixed home files x.1) (numbered_files 0 files)

  -- the imports of files that are numbered from `k` on
  abbrev pub imports_from : ℕ → List ℕ → List (SourceTree S) → List (ImportAt S)
  imports_from k home [] = []
  imports_from k home (f ∷ fs) =
      map (λ s. record { file = k; from = home_of home f; spec = s }) (import_specs f.tree)
      ++ imports_from (suc k) home fs

  -- the imports of all files, in their order
  abbrev pub all_imports : List ℕ → List (SourceTree S) → List (ImportAt S)
  all_imports home files = imports_from 0 home files

  -- a package of this path that isn't named `main`
  abbrev pub is_named_by : List ℕ → Package S → Bool
  is_named_by path p = bytes_eq path p.path && not (bytes_eq p.name (codes "main"))

  -- the first import of a path that names no package, or one named `main`
  abbrev pub first_unnamed : List ℕ → List (SourceTree S) → Option (ImportAt S)
  first_unnamed home files =
      find (λ i. not (list_any (is_named_by i.spec.path) (packages_of home files))) (all_imports home files)

  -- the first import that isn't allowed where it stands
  abbrev pub first_internal : List ℕ → List (SourceTree S) → Option (ImportAt S)
  first_internal home files = find (λ i. not (may_import i.from i.spec.path)) (all_imports home files)

-- what is wrong, with the number of a file, an offset in it, and a path
pub data GraphFault : Type 0 where
  mixed_package : ℕ → ℕ → GraphFault
  no_package : ℕ → ℕ → List ℕ → GraphFault
  cycle : List ℕ → GraphFault
  internal_package : ℕ → ℕ → List ℕ → GraphFault

module _ (home : List ℕ) (files : List (SourceTree Span)) where
  -- no package lies on a cycle of imports
  abbrev pub HasNoCycle : Type 0
  HasNoCycle = (path : List ℕ) → Leads (packages_of home files) path path → ⊥

  -- The first fault, in the order in which they are looked for.
  pub data IsFault : GraphFault → Type 0 where
    is_mixed_package : (k : ℕ) (f : SourceTree Span)
        → first_mixed home files ≡ Some (k, f)
        → IsFault (mixed_package k f.tree.package_name.span.start)
    is_no_package : (i : ImportAt Span)
        → first_mixed home files ≡ None → first_unnamed home files ≡ Some i
        → IsFault (no_package i.file i.spec.span.start i.spec.path)
    is_cycle : (path : List ℕ)
        → first_mixed home files ≡ None → first_unnamed home files ≡ None
        → IsLeastOnCycle (packages_of home files) path
        → IsFault (cycle path)
    is_internal : (i : ImportAt Span)
        → first_mixed home files ≡ None → first_unnamed home files ≡ None → HasNoCycle
        → first_internal home files ≡ Some i
        → IsFault (internal_package i.file i.spec.span.start i.spec.path)

  -- Nothing is wrong: the files link.
  pub record Links : Type 0 where
    pub one_name : first_mixed home files ≡ None
    pub named : first_unnamed home files ≡ None
    pub no_cycle : HasNoCycle
    pub visible : first_internal home files ≡ None
