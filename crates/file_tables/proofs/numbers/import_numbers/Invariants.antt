use Rattle.std.proofs.Common.{◌≡◌, ◌++◌, drop, map}
use Rattle.go_tree.specs.FileView.{import_decl_of, file_of}
use Rattle.pkg_graph.specs.Package.{specs_in, import_specs}
use Rattle.pkg_graph.specs.Views.{package_view}
use Rattle.file_tables.specs.Numbers.{number_in}
use Rattle.file_tables.proofs.numbers.import_numbers.Given as goal

abbrev pub invariant-loop-decl : goal.invariant-loop-decl
invariant-loop-decl l =
    l.numbers.items ++ map (number_in (map package_view l.packages)) (specs_in (map import_decl_of (drop l.decl-index l.decl-items)))
    ≡ map (number_in (map package_view l.packages)) (import_specs (file_of l.tree))
