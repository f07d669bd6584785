use Rattle.std.proofs.Common.{◌≡◌, drop, map}
use Rattle.go_tree.specs.View.{param_of}
use Rattle.names_within.specs.TreeWalk.{begin_params}
use Rattle.name_walks.specs.Walk.{walk_of}
use Rattle.names_within.proofs.types.begin_params.Given as goal

abbrev pub invariant-loop-param : goal.invariant-loop-param
invariant-loop-param l =
    begin_params l.from (map param_of (drop l.param-index l.params)) (walk_of l.names)
    ≡ begin_params l.from (map param_of l.params) (walk_of l.initial.names)
