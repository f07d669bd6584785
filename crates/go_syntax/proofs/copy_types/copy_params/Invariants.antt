use Rattle.std.proofs.Common.{◌≡◌, take, map}
use Rattle.go_tree.specs.View.{param_of}
use Rattle.go_syntax.proofs.copy_types.copy_params.Given as goal

abbrev pub invariant-loop-param : goal.invariant-loop-param
invariant-loop-param l = map param_of l.copies.items ≡ map param_of (take l.param-index l.param-items)
