-- The imports of all files as values without places in memory, and as numbers of packages.
use Rattle.std.specs.Prelude.{◌≡◌, ◌<◌, ℕ, List, [], ◌∷◌, ◌++◌, map, length, bytes_eq}
use Rattle.std.specs.Prelude.{if◌then◌else◌}
use Rattle.std.specs.Option.{option_to_list}
use Rattle.go_tree.specs.declared.spans.Span.{Span}
use Rattle.go_tree.specs.declared.files.ImportSpec as code
use Rattle.go_tree.specs.declared.files.FileTree.{FileTree}
use Rattle.go_tree.specs.FileView.{import_spec_of, file_of}
use Rattle.pkg_graph.specs.Package.{import_specs}
use Rattle.go_tree.specs.File.{ImportSpec}
use Rattle.pkg_graph.specs.Graph.{ImportAt, all_imports}
use Rattle.pkg_graph.specs.Views.{sources_of, AreHomesOf}
use Rattle.pkg_graph.specs.declared.packages.SourceTree.{SourceTree}
use Rattle.pkg_graph.specs.declared.homes.Homes.{Homes}
use Rattle.pkg_graph.specs.ModuleFiles.PathLists.{number_of, path_at}
use Rattle.pkg_graph.specs.ImportOrder.Numbers.{row}
use Rattle.pkg_graph.specs.declared.imports.Import.{Import}

-- an import
abbrev pub import_view : Import → ImportAt Span
import_view i = record { file = i.file; from = i.from.now; spec = import_spec_of i.spec.now }

-- the imports of one file
abbrev pub specs_view : ℕ → List ℕ → List (ImportSpec Span) → List (ImportAt Span)
specs_view file from specs = map (λ s. record { file = file; from = from; spec = s }) specs

-- the number of the one path, where the other is that of the package
abbrev pub link_to : List (List ℕ) → List ℕ → List ℕ → List ℕ → List ℕ
link_to paths path from to = if bytes_eq path from then option_to_list (number_of paths to) else []

-- the numbers of the packages that the package with the path imports
abbrev pub links_from : List (List ℕ) → List ℕ → List (ImportAt Span) → List ℕ
links_from paths path [] = []
links_from paths path (i ∷ is) = link_to paths path i.from i.spec.path ++ links_from paths path is

-- for each package the numbers of those that it imports
pub record AreLinksOf (paths : List (List ℕ)) (imports : List (ImportAt Span)) (links : List (List ℕ)) : Type 0 where
  pub size : length links ≡ length paths
  pub rows : (k : ℕ) → k < length paths → row links k ≡ links_from paths (path_at paths k) imports

-- these imports come last
abbrev pub AddsImports : List Import → List Import → List (ImportAt Span) → Type 0
AddsImports old new added = map import_view new ≡ map import_view old ++ added

-- the imports of these specs in a file
abbrev pub specs_of : ℕ → List ℕ → List code.ImportSpec → List (ImportAt Span)
specs_of file from specs = specs_view file from (map import_spec_of specs)

-- the imports of a file
abbrev pub imports_in : ℕ → List ℕ → FileTree → List (ImportAt Span)
imports_in file from tree = specs_view file from (import_specs (file_of tree))

-- they are the imports of the files
abbrev pub AreImportsOf : List SourceTree → Homes → List Import → Type 0
AreImportsOf files homes imports =
    (home : List ℕ) → AreHomesOf home files homes → map import_view imports ≡ all_imports home (sources_of files)

-- to the row of the one path comes the number of the other
abbrev pub AddsLink : List (List ℕ) → List ℕ → List ℕ → List (List ℕ) → List (List ℕ) → Type 0
AddsLink paths from to old new =
    (k : ℕ) → k < length paths → row new k ≡ row old k ++ link_to paths (path_at paths k) from to
