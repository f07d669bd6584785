use Rattle.std.proofs.Common.{◌≤◌, length}
use Rattle.scope_tables.specs.NamedScopes.{Behind}
use Rattle.scope_tables.proofs.named.search.Given as goal

abbrev pub invariant-loop-count : goal.invariant-loop-count
invariant-loop-count l = record {
  within : l.count ≤ length l.held;
  behind : Behind l.at l.held l.count;
}

abbrev pub decreases-loop-count : goal.decreases-loop-count
decreases-loop-count l = l.count
