-- Packages as values without places in memory (Go specification, Packages; Source file organization; Import
-- declarations).
use Rattle.std.specs.Prelude.{ℕ, List, [], ◌∷◌, ◌++◌, map, filter, not, bytes_eq, if◌then◌else◌}
use Rattle.std.specs.Prelude.{codes}
use Rattle.go_tree.specs.File.{ImportSpec, ImportDecl, File}
use Rattle.pkg_graph.specs.ModuleFiles.Pieces.{folder_of, has_bytes}

-- a file: its path in the module, and its tree
pub record SourceTree (S : Type 0) : Type 0 where
  pub path : List ℕ
  pub tree : File S

-- a package: its import path, its name, and its files in the order of their paths
pub record Package (S : Type 0) : Type 0 where
  pub path : List ℕ
  pub name : List ℕ
  pub files : List (SourceTree S)

-- the package of a folder has the module's path, followed by `/` and the folder's path where the folder isn't the root
abbrev pub import_path : List ℕ → List ℕ → List ℕ
import_path home folder = if has_bytes folder then home ++ (codes "/" ++ folder) else home

-- each path once, in the order in which each is first seen
abbrev pub first_seen : List (List ℕ) → List (List ℕ)
first_seen [] = []
first_seen (x ∷ xs) = x ∷ filter (λ y. not (bytes_eq x y)) (first_seen xs)

module _ {S : Type 0} where
  -- the specs of import declarations
  abbrev pub specs_in : List (ImportDecl S) → List (ImportSpec S)
  specs_in [] = []
  specs_in (d ∷ ds) = d.specs ++ specs_in ds

  -- the import specs of a file, in its order
  abbrev pub import_specs : File S → List (ImportSpec S)
  import_specs file = specs_in file.imports

  -- the path of the package that a file belongs to
  abbrev pub home_of : List ℕ → SourceTree S → List ℕ
  home_of home f = import_path home (folder_of f.path)

  -- the files of the package with this path
  abbrev pub files_of : List ℕ → List (SourceTree S) → List ℕ → List (SourceTree S)
  files_of home files path = filter (λ f. bytes_eq path (home_of home f)) files

  -- a package has the name that its first file says
  abbrev pub first_name : List (SourceTree S) → List ℕ
  first_name [] = []
  first_name (f ∷ fs) = f.tree.package_name.name

  -- the package with this path
  abbrev pub package_of : List ℕ → List (SourceTree S) → List ℕ → Package S
  package_of home files path =
      record { path = path; name = first_name (files_of home files path); files = files_of home files path }

  -- The packages of a module's files, one for each folder, in the order of their first files.
  abbrev pub packages_of : List ℕ → List (SourceTree S) → List (Package S)
  packages_of home files = map (package_of home files) (first_seen (map (home_of home) files))
