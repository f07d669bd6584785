use Rattle.std.proofs.Common.{◌≡◌, ◌++◌, drop, map}
use Rattle.run_rules.specs.ImportRules.Settled.{removal}
use Rattle.import_edit.proofs.added.push_removals.Given as goal

abbrev pub invariant-loop-range : goal.invariant-loop-range
invariant-loop-range l = l.edits ++ map removal (drop l.range-index l.ranges) ≡ l.initial.edits ++ map removal l.ranges
