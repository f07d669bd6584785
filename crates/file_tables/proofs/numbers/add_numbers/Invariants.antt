use Rattle.std.proofs.Common.{◌≡◌, ◌++◌, drop, map}
use Rattle.go_tree.specs.FileView.{import_spec_of}
use Rattle.pkg_graph.specs.Views.{package_view}
use Rattle.file_tables.specs.Numbers.{number_in}
use Rattle.file_tables.proofs.numbers.add_numbers.Given as goal

abbrev pub invariant-loop-spec : goal.invariant-loop-spec
invariant-loop-spec l =
    l.numbers.items ++ map (number_in (map package_view l.packages)) (map import_spec_of (drop l.spec-index l.specs))
    ≡ l.initial.numbers.items ++ map (number_in (map package_view l.packages)) (map import_spec_of l.specs)
