-- Packages as values without places in memory.
use Rattle.std.specs.Prelude.{◌≡◌, ◌<◌, ℕ, List, [], ◌∷◌, ◌++◌, map, length, slice_index_or}
use Rattle.std.specs.Prelude.{if◌then◌else◌, Some}
use Rattle.go_tree.specs.declared.spans.Span.{Span}
use Rattle.go_tree.specs.FileView.{file_of}
use Rattle.pkg_graph.specs.declared.packages.SourceTree.{SourceTree}
use Rattle.pkg_graph.specs.declared.packages.Package.{Package}
use Rattle.pkg_graph.specs.declared.homes.Homes.{Homes}
use Rattle.pkg_graph.specs.ModuleFiles.PathLists.{number_of, has_path}
use Rattle.pkg_graph.specs.Package as pure
use Rattle.pkg_graph.specs.Order.{IsDependencyOrder}

-- a file of the program as such a value
abbrev pub source_of : SourceTree → pure.SourceTree Span
source_of s = record { path = s.path; tree = file_of s.tree }

-- each file
abbrev pub sources_of : List SourceTree → List (pure.SourceTree Span)
sources_of files = map source_of files

-- a package
abbrev pub package_view : Package → pure.Package Span
package_view p = record { path = p.path; name = p.name; files = map source_of p.files }

-- they are the packages of the files
abbrev pub ArePackagesOf : List ℕ → List SourceTree → List Package → Type 0
ArePackagesOf home files packages = map package_view packages ≡ pure.packages_of home (sources_of files)

-- these numbers are their order
abbrev pub IsOrderOf : List ℕ → List SourceTree → List ℕ → Type 0
IsOrderOf home files order = IsDependencyOrder (pure.packages_of home (sources_of files)) order

-- The packages of files by their numbers: their paths, their names, and for each file the number of its package.
pub record AreHomes
    (home : List ℕ) (files : List (pure.SourceTree Span)) (paths names : List (List ℕ)) (numbers : List ℕ)
    : Type 0 where
  pub paths_are : paths ≡ map (λ p. p.path) (pure.packages_of home files)
  pub names_are : names ≡ map (λ p. p.name) (pure.packages_of home files)
  pub numbers_are : map Some numbers ≡ map (λ f. number_of paths (pure.home_of home f)) files

-- the same of what the code keeps
abbrev pub AreHomesOf : List ℕ → List SourceTree → Homes → Type 0
AreHomesOf home files homes = AreHomes home (sources_of files) homes.paths homes.names.items homes.numbers.items

-- the names of packages after one more file, whose package has the path and says the name
abbrev pub names_with : List (List ℕ) → List (List ℕ) → List ℕ → List ℕ → List (List ℕ)
names_with paths names home name = if has_path paths home then names else names ++ name ∷ []

-- the number of the path comes last
pub record AddsNumber (paths : List (List ℕ)) (path : List ℕ) (old new : List ℕ) : Type 0 where
  pub number : ℕ
  pub is : number_of paths path ≡ Some number
  pub added : new ≡ old ++ number ∷ []

-- the names after one more file, whose package has the path and says the name
abbrev pub names_after : Homes → List ℕ → List ℕ → List (List ℕ)
names_after homes path name = names_with homes.paths homes.names.items path name

-- the number of the path comes last
abbrev pub AddsNumberTo : Homes → Homes → List ℕ → Type 0
AddsNumberTo old new path = AddsNumber new.paths path old.numbers.items new.numbers.items

-- each file has the number of one of so many
abbrev pub AreNumbersBelow : ℕ → List SourceTree → Homes → Type 0
AreNumbersBelow count files homes = (k : ℕ) → k < length files → slice_index_or homes.numbers.items k 0 < count
