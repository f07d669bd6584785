use Rattle.std.proofs.Common.{◌<◌, length}
use Rattle.std.proofs.lemmas.Bool.{OnTrue_at}
use Rattle.pkg_graph.proofs.ImportOrder.RankLaws.{at_any, never_back}
use Rattle.pkg_graph.proofs.import_order.cycles.is_on_cycle.Goals as goal

pub returns-then-are_above-clause-on : goal.returns-then-are_above-clause-on
returns-then-are_above-clause-on c = tt

pub returns-then-are_above-clause-off : goal.returns-then-are_above-clause-off
returns-then-are_above-clause-off c =
    let links = c.args.links.now in
    let ranks = c.args.ranks.now.items in
    let k = c.args.k in
    let h : k < length ranks = rw c.requires.size c.requires.start in
    let at = at_any ranks k c.index.result.now h c.index.ensures in
    never_back links ranks (OnTrue_at c.if-ascend.true c.requires.ascend) k (rw (at, ← c.row.ensures) c.if-are_above.ensures)
