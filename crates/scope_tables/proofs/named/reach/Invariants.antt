use Rattle.std.proofs.Common.{◌≤◌, length}
use Rattle.scope_tables.specs.NamedScopes.{Ended}
use Rattle.scope_tables.proofs.named.reach.Given as goal

abbrev pub invariant-loop-count : goal.invariant-loop-count
invariant-loop-count l = record {
  within : l.count ≤ length l.held;
  ended : Ended l.to l.held l.count;
}

abbrev pub decreases-loop-count : goal.decreases-loop-count
decreases-loop-count l = l.count
