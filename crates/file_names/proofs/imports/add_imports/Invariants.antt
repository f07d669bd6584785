use Rattle.std.proofs.Common.{◌≡◌, ◌++◌, drop, map}
use Rattle.go_tree.specs.FileView.{import_spec_of}
use Rattle.pkg_graph.specs.Views.{package_view}
use Rattle.file_names.specs.Imports.{import_in}
use Rattle.file_names.proofs.imports.add_imports.Given as goal

abbrev pub invariant-loop-spec : goal.invariant-loop-spec
invariant-loop-spec l =
    l.imports.items ++ map (import_in (map package_view l.packages)) (map import_spec_of (drop l.spec-index l.specs))
    ≡ l.initial.imports.items ++ map (import_in (map package_view l.packages)) (map import_spec_of l.specs)
