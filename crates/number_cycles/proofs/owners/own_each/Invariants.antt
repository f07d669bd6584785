use Rattle.number_cycles.specs.Owners.{AreOwned}
use Rattle.number_cycles.proofs.owners.own_each.Given as goal

abbrev pub invariant-loop-place : goal.invariant-loop-place
invariant-loop-place l = AreOwned l.links l.owners
