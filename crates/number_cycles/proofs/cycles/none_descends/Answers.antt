use Rattle.std.proofs.Common.{◌<◌, length}
use Rattle.pkg_graph.proofs.ImportOrder.RankLaws.{at_any, descends_more}
use Rattle.number_cycles.proofs.cycles.none_descends.Goals as goal

pub loop-k-preserved : goal.loop-k-preserved
loop-k-preserved c =
    let links = c.args.links.now in
    let ranks = c.args.ranks.now.items in
    let k = c.loop-k.k in
    let h : k < length ranks = rw (c.requires.size, ← c.len-k-end.ensures) c.loop-k-test.true in
    let at = at_any ranks k c.index.result.now h c.index.ensures in
    descends_more links ranks k c.loop-k.invariant (rw (at, ← c.row.ensures) c.if-not-are_from.ensures)
