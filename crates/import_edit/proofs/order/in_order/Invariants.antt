use Rattle.std.proofs.Common.{◌≡◌, ◌≤◌, drop, length}
use Rattle.run_rules.specs.ImportRules.SpecText.{in_order}
use Rattle.import_edit.specs.Order.{imports_of}
use Rattle.import_edit.proofs.order.in_order.Given as goal

abbrev pub decreases-loop-left : goal.decreases-loop-left
decreases-loop-left l = l.left

abbrev pub invariant-loop-left : goal.invariant-loop-left
invariant-loop-left l = record {
  within : l.left ≤ length l.added;
  placed : imports_of l.list.items ≡ in_order (drop l.left l.added);
}
