use Rattle.std.proofs.Common.{◌≡◌, ◌++◌, drop, map}
use Rattle.go_tree.specs.FileView.{import_spec_of}
use Rattle.file_tables.specs.DependencyOrder.Links.{numbers_of, spec_paths}
use Rattle.file_tables.proofs.dependency_order.numbers.add_specs.Given as goal

abbrev pub invariant-loop-spec : goal.invariant-loop-spec
invariant-loop-spec l =
    l.numbers.items ++ numbers_of l.paths (spec_paths (map import_spec_of (drop l.spec-index l.specs)))
    ≡ l.initial.numbers.items ++ numbers_of l.paths (spec_paths (map import_spec_of l.specs))
