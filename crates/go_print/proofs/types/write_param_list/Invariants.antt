use Rattle.std.proofs.Common.{◌≡◌, ◌++◌, drop, map}
use Rattle.go_tree.specs.View.{param_of}
use Rattle.go_print.proofs.Steps.{all}
use Rattle.go_print.proofs.Lists.{param_part}
use Rattle.go_print.proofs.types.write_param_list.Given as goal

abbrev pub invariant-loop-i : goal.invariant-loop-i
invariant-loop-i l = l.out.items ++ all param_part (map param_of (drop l.i l.items)) ≡ l.initial.out.items ++ all param_part (map param_of l.items)
