-- Imports by the numbers of their packages (Go specification, Import declarations).
use Rattle.std.specs.Prelude.{ℕ, List}
use Rattle.go_tree.specs.File.{ImportSpec}
use Rattle.pkg_graph.specs.Package.{Package}
use Rattle.run_rules.specs.Programs.{package_number}

-- the number of the package that a spec names; as many as there are packages where none has the path
abbrev pub number_in : {S : Type 0} → List (Package S) → ImportSpec S → ℕ
number_in ps s = package_number ps s.path
