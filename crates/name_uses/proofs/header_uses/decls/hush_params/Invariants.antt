use Rattle.std.proofs.Common.{◌≡◌, drop, map}
use Rattle.go_tree.specs.View.{param_of}
use Rattle.name_uses.specs.HeaderUses.Headers.{hush_params}
use Rattle.name_uses.specs.Walk.{walk_of, walked}
use Rattle.name_uses.proofs.header_uses.decls.hush_params.Given as goal

abbrev pub invariant-loop-param : goal.invariant-loop-param
invariant-loop-param l =
    walked (hush_params (map param_of (drop l.param-index l.params))) (walk_of l.uses)
    ≡ walked (hush_params (map param_of l.params)) (walk_of l.initial.uses)
