use Rattle.std.proofs.Common.{◌≡◌, ◌++◌, drop, map}
use Rattle.go_tree.specs.FileView.{import_decl_of, file_of}
use Rattle.pkg_graph.specs.Package.{specs_in, import_specs}
use Rattle.file_tables.specs.DependencyOrder.Links.{numbers_of, spec_paths}
use Rattle.file_tables.proofs.dependency_order.numbers.add_file.Given as goal

abbrev pub invariant-loop-decl : goal.invariant-loop-decl
invariant-loop-decl l =
    l.numbers.items ++ numbers_of l.paths (spec_paths (specs_in (map import_decl_of (drop l.decl-index l.decl-items))))
    ≡ l.initial.numbers.items ++ numbers_of l.paths (spec_paths (import_specs (file_of l.tree)))
