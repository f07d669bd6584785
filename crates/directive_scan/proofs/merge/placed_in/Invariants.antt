use Rattle.std.proofs.Common.{◌≡◌, ◌≤◌, ◌+◌, ◌-◌, ◌++◌, drop, length}
use Rattle.directive_scan.specs.Marked.{placed_in}
use Rattle.directive_scan.proofs.merge.placed_in.Given as goal

abbrev pub invariant-merged : goal.invariant-merged
invariant-merged l = record {
  made : l.marks.items ++ placed_in (drop l.i l.firsts) (drop l.j l.others) ≡ placed_in l.firsts l.others;
  first : l.i ≤ length l.firsts;
  other : l.j ≤ length l.others;
}

abbrev pub decreases-merged : goal.decreases-merged
decreases-merged l = (length l.firsts - l.i) + (length l.others - l.j)
