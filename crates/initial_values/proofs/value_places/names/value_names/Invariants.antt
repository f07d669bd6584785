use Rattle.std.proofs.Common.{◌≡◌, ◌++◌, drop, map}
use Rattle.go_tree.specs.Lists.{exprs_from}
use Rattle.go_tree.specs.View.{expr_of}
use Rattle.initial_values.specs.ValuePlaces.Names.{names_of_each}
use Rattle.initial_values.proofs.value_places.names.value_names.Given as goal

abbrev pub invariant-loop-e : goal.invariant-loop-e
invariant-loop-e l =
    l.names.items ++ names_of_each (exprs_from (map expr_of (drop l.e-index l.e-items)))
    ≡ l.initial.names.items ++ names_of_each (exprs_from (map expr_of l.e-items))
