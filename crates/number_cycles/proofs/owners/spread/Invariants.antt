use Rattle.number_cycles.specs.Owners.{AllFrom, AreOwned}
use Rattle.number_cycles.proofs.owners.spread.Given as goal

abbrev pub invariant-loop-round : goal.invariant-loop-round
invariant-loop-round l = record {
  owned : AreOwned l.links l.owners;
  walk : AllFrom l.links l.root l.walk.items;
}
