use Rattle.std.proofs.Common.{◌≡◌, ◌++◌, drop, map}
use Rattle.go_tree.specs.View.{field_of}
use Rattle.go_print.proofs.Steps.{all}
use Rattle.go_print.proofs.Lists.{field_part}
use Rattle.go_print.proofs.types.+type_text.Given as goal

abbrev pub invariant-write_fields-loop-i : goal.invariant-write_fields-loop-i
invariant-write_fields-loop-i l = l.out.items ++ all field_part (map field_of (drop l.i l.items)) ≡ l.initial.out.items ++ all field_part (map field_of l.items)
