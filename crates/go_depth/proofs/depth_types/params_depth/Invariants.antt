use Rattle.std.proofs.Common.{◌≡◌, take}
use Rattle.go_depth.specs.Depth.{capped, greatest}
use Rattle.go_depth.specs.Deep.{param_deep}
use Rattle.go_depth.proofs.depth_types.params_depth.Given as goal

abbrev pub invariant-loop-param : goal.invariant-loop-param
invariant-loop-param l = l.deepest ≡ capped (greatest param_deep (take l.param-index l.param-items))
