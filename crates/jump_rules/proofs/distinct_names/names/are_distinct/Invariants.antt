use Rattle.std.proofs.Common.{drop}
use Rattle.jump_rules.specs.DistinctNames.Seen.{AreSeen}
use Rattle.jump_rules.proofs.distinct_names.names.are_distinct.Given as goal

abbrev pub invariant-loop-name : goal.invariant-loop-name
invariant-loop-name l = AreSeen l.names (drop l.name-index l.names) l.seen
