-- Files read as a program (Go specification, Packages; Package clause; Import declarations; Go Modules Reference).
-- `Spells text tree` says that the text is a source file with this tree.
use Rattle.std.specs.Prelude.{◌≡◌, ℕ, Bool, List, [], ◌∷◌, bytes_eq, not, filter, map, find, Some}
use Rattle.go_tree.specs.declared.spans.Span.{Span}
use Rattle.go_tree.specs.File.{File}
use Rattle.pkg_graph.specs.ModuleFiles.Selected.{is_selected, module_file}
use Rattle.pkg_graph.specs.ModuleFiles.ModuleFile.{is_module, module_of}
use Rattle.pkg_graph.specs.Package.{SourceTree, Package, packages_of}
use Rattle.pkg_graph.specs.Graph.{Links}

-- a file: its path in the module, and its text
pub record Source : Type 0 where
  pub path : List ℕ
  pub text : List ℕ

-- the file has this path
abbrev pub is_at : List ℕ → Source → Bool
is_at path f = bytes_eq f.path path

-- the files that are read
abbrev pub selected_files : List Source → List Source
selected_files files = filter (λ f. is_selected (map (λ g. g.path) files) f.path) files

-- those other than `go.mod` in the root
abbrev pub go_files : List Source → List Source
go_files files = filter (λ f. not (is_at module_file f)) (selected_files files)

-- The files, with these trees, are a module of these packages: `go.mod` says its path, each folder of selected files is
-- a package, and nothing is wrong with their names and imports.
pub record IsProgram
    (files : List Source) (trees : List (SourceTree Span)) (packages : List (Package Span)) : Type 0 where
  pub module_text : Source
  pub path : List ℕ
  pub module_is : find (is_at module_file) files ≡ Some module_text
  pub path_is : module_of module_text.text ≡ is_module path
  pub packages_are : packages ≡ packages_of path trees
  pub links : Links path trees

module _ (Spells : List ℕ → File Span → Type 0) where
  -- each file with its tree
  pub data AreTrees : List Source → List (SourceTree Span) → Type 0 where
    none : AreTrees [] []
    file : (f : Source) (tree : File Span) (fs : List Source) (trees : List (SourceTree Span))
        → Spells f.text tree → AreTrees fs trees
        → AreTrees (f ∷ fs) (record { path = f.path; tree = tree } ∷ trees)

  -- The files, in the order of their paths, read as a module of these packages.
  pub record Reads (files : List Source) (packages : List (Package Span)) : Type 0 where
    pub trees : List (SourceTree Span)
    pub trees_are : AreTrees (go_files files) trees
    pub program : IsProgram files trees packages
