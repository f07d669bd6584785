use Rattle.std.proofs.Common.{drop}
use Rattle.jump_rules.specs.DistinctNames.Seen.{AreSeen}
use Rattle.jump_rules.proofs.DistinctNames.SeenLemmas.{counted}
use Rattle.jump_rules.proofs.distinct_names.names.stand_once.Given as goal

abbrev pub invariant-loop-name : goal.invariant-loop-name
invariant-loop-name l = AreSeen (counted l.names) (counted (drop l.name-index l.names)) l.seen
