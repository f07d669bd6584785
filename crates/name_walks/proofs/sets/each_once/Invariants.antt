use Rattle.std.proofs.Common.{◌≡◌, drop}
use Rattle.name_walks.specs.EachOnce.{each_once}
use Rattle.name_walks.proofs.SetLaws.{once_after}
use Rattle.name_walks.proofs.sets.each_once.Given as goal

abbrev pub invariant-loop-name : goal.invariant-loop-name
invariant-loop-name l = record {
  same : l.list.items ≡ l.seen;
  rest : once_after l.seen (drop l.name-index l.names) ≡ each_once l.names;
}
