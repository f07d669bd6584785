-- What the listed paths say of a module (Go Modules Reference, go.mod files).
use Rattle.std.specs.Prelude.{ℕ, Bool, List}
use Rattle.pkg_graph.specs.ModuleFiles.PathLists.{has_path}
use Rattle.pkg_graph.specs.ModuleFiles.Selected.{module_file}

-- `go.mod` in the root is among them
abbrev pub lists_module : List (List ℕ) → Bool
lists_module listed = has_path listed module_file
