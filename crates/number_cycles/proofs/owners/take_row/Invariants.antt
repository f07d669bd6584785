use Rattle.number_cycles.specs.Owners.{AllFrom, AreOwned}
use Rattle.number_cycles.proofs.owners.take_row.Given as goal

abbrev pub invariant-loop-m : goal.invariant-loop-m
invariant-loop-m l = record {
  owned : AreOwned l.links l.owners;
  walk : AllFrom l.links l.root l.walk.items;
}
