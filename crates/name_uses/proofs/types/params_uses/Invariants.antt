use Rattle.std.proofs.Common.{◌≡◌, drop, map}
use Rattle.go_tree.specs.View.{param_of}
use Rattle.used_names.specs.Walks.{after_params}
use Rattle.name_uses.specs.Walk.{walk_of, walked}
use Rattle.name_uses.proofs.types.params_uses.Given as goal

abbrev pub invariant-loop-param : goal.invariant-loop-param
invariant-loop-param l =
    walked (after_params (map param_of (drop l.param-index l.params))) (walk_of l.uses)
    ≡ walked (after_params (map param_of l.params)) (walk_of l.initial.uses)
