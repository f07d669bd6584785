-- Packages made from their paths and names.
use Rattle.std.specs.Prelude.{◌≡◌, ℕ, List, [], ◌∷◌, map}
use Rattle.go_tree.specs.declared.spans.Span.{Span}
use Rattle.pkg_graph.specs.Package.{SourceTree, Package}
use Rattle.pkg_graph.specs.Views.{package_view}
use Rattle.pkg_graph.specs.declared.packages.Package as code
use Rattle.pkg_graph.specs.declared.homes.Homes.{Homes}

-- packages with these paths and names, and the files that each path has
abbrev pub packages_with : (List ℕ → List (SourceTree Span)) → List (List ℕ) → List (List ℕ) → List (Package Span)
packages_with files [] names = []
packages_with files (p ∷ ps) [] = []
packages_with files (p ∷ ps) (n ∷ ns) = record { path = p; name = n; files = files p } ∷ packages_with files ps ns

-- packages with these paths and names, and no files
abbrev pub without_files : List (List ℕ) → List (List ℕ) → List (Package Span)
without_files paths names = packages_with (λ p. []) paths names

-- they have the paths and names, and no files
abbrev pub HaveNoFiles : Homes → List code.Package → Type 0
HaveNoFiles homes packages = map package_view packages ≡ without_files homes.paths homes.names.items
