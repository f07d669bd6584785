-- Places with the imports of their file alone (Go specification, Import declarations; Blocks).
use Rattle.std.specs.Prelude.{ℕ, List, map, None}
use Rattle.go_tree.specs.declared.files.FileTree.{FileTree}
use Rattle.go_tree.specs.FileView.{file_of}
use Rattle.pkg_graph.specs.declared.packages.Package.{Package}
use Rattle.run_rules.specs.Programs.{linked_imports}
use Rattle.typed_names.specs.declared.scopes.Scope.{Scope}
use Rattle.package_blocks.specs.Imports.{views}
use Rattle.collected.specs.Places.{IsValuePlace}
use Rattle.checked_modules.specs.FilePlaces.Around.{FileAround, IsPlaceOf}
use Rattle.checked_modules.specs.FilePlaces.Trees.{IsTreeOf}

-- the names of a file's imports
abbrev pub names_imported : List Package → FileTree → List (List ℕ)
names_imported packages t = map (λ i. i.name) (linked_imports (views packages) (file_of t))

-- a place has those of a place that is told, and is the place of each file of which that is the place
pub record IsOwnPlace (packages : List Package) (t : FileTree) (place s : Scope) : Type 0 where
  pub alone : IsValuePlace place None (names_imported packages t) s
  pub is : (x : FileAround) → IsTreeOf packages t x → IsPlaceOf x place → IsPlaceOf x s
