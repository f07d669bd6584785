use Rattle.std.proofs.Common.{◌<◌, length}
use Rattle.pkg_graph.proofs.ImportOrder.RankLaws.{at_any, never_back}
use Rattle.number_cycles.proofs.cycles.is_on_cycle.Goals as goal

pub returns-then-are_above-clause-off : goal.returns-then-are_above-clause-off
returns-then-are_above-clause-off c =
    let links = c.args.links.now in
    let ranks = c.args.ranks.now.items in
    let k = c.args.k in
    let h : k < length ranks = rw c.requires.size c.requires.number in
    let at = at_any ranks k c.index.result.now h c.index.ensures in
    never_back links ranks c.requires.ascend k (rw (at, ← c.row.ensures) c.if-are_above.ensures)
