use Rattle.std.proofs.Common.{◌≡◌, drop, map}
use Rattle.go_tree.specs.View.{param_of}
use Rattle.used_names.specs.Walks.{begin_params}
use Rattle.name_uses.specs.Walk.{walk_of, walked}
use Rattle.name_uses.proofs.types.begin_params.Given as goal

abbrev pub invariant-loop-param : goal.invariant-loop-param
invariant-loop-param l =
    walked (begin_params (map param_of (drop l.param-index l.params))) (walk_of l.uses)
    ≡ walked (begin_params (map param_of l.params)) (walk_of l.initial.uses)
