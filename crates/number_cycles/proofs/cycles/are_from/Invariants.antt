use Rattle.std.proofs.Common.{◌≡◌, true, take}
use Rattle.std.specs.List.{list_all}
use Rattle.pkg_graph.specs.ImportOrder.Ranks.{is_from}
use Rattle.number_cycles.proofs.cycles.are_from.Given as goal

abbrev pub invariant-loop-number : goal.invariant-loop-number
invariant-loop-number l = list_all (is_from l.ranks.items l.rank) (take l.number-index l.numbers) ≡ true
