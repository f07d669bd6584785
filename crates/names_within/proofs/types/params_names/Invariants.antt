use Rattle.std.proofs.Common.{◌≡◌, drop, map}
use Rattle.go_tree.specs.View.{param_of}
use Rattle.names_within.specs.TreeWalk.{after_params}
use Rattle.name_walks.specs.Walk.{walk_of}
use Rattle.names_within.proofs.types.params_names.Given as goal

abbrev pub invariant-loop-param : goal.invariant-loop-param
invariant-loop-param l =
    after_params (map param_of (drop l.param-index l.params)) (walk_of l.names)
    ≡ after_params (map param_of l.params) (walk_of l.initial.names)
