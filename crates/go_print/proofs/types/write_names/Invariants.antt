use Rattle.std.proofs.Common.{◌≡◌, ◌++◌, drop, map}
use Rattle.go_tree.specs.View.{name_at_of}
use Rattle.go_print.proofs.Steps.{all}
use Rattle.go_print.proofs.Lists.{name_part}
use Rattle.go_print.proofs.types.write_names.Given as goal

abbrev pub invariant-loop-i : goal.invariant-loop-i
invariant-loop-i l = l.out.items ++ all name_part (map name_at_of (drop l.i l.items)) ≡ l.initial.out.items ++ all name_part (map name_at_of l.items)
