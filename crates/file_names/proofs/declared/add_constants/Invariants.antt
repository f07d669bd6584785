use Rattle.std.proofs.Common.{◌≡◌, ◌++◌, drop, map}
use Rattle.go_tree.specs.View.{name_at_of}
use Rattle.file_names.specs.DeclaredNames.{name_of}
use Rattle.file_names.proofs.declared.add_constants.Given as goal

abbrev pub invariant-loop-at : goal.invariant-loop-at
invariant-loop-at l =
    map name_of l.names.items ++ map name_at_of (drop l.at l.name-items)
    ≡ map name_of l.initial.names.items ++ map name_at_of l.spec.names
