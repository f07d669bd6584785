use Rattle.std.proofs.Common.{rules, ◌≡◌, ◌<◌, length, slice_index_or}
use Rattle.std.specs.Vec.{vec_len}
use Rattle.pkg_graph.specs.ImportOrder.Ranks.{is_above}
use Rattle.pkg_graph.proofs.ImportOrder.NumberLaws.{among_at}
use Rattle.pkg_graph.proofs.ImportOrder.RankLaws.{at_any, all_more, lt_from}
use Rattle.number_cycles.proofs.cycles.are_above.Goals as goal

pub index-requires : goal.index-requires
index-requires c =
    let sized : vec_len c.args.ranks.now ≡ length c.args.ranks.now.items = search rules in
    let at = slice_index_or c.args.numbers.now c.loop-number.number-index 0 in
    let h : at < length c.args.ranks.now.items = c.requires _ (among_at c.args.numbers.now c.loop-number.number-index 0 c.loop-number-test.true) in
    rw sized h

pub loop-number-preserved : goal.loop-number-preserved
loop-number-preserved c =
    let ranks = c.args.ranks.now.items in
    let numbers = c.args.numbers.now in
    let i = c.loop-number.number-index in
    let h = c.requires _ (among_at numbers i 0 c.loop-number-test.true) in
    let at = at_any ranks (slice_index_or numbers i 0) c.index.result.now h c.index.ensures in
    all_more (is_above ranks c.args.rank) numbers i c.loop-number-test.true c.loop-number.invariant (rw at (lt_from c.args.rank c.index.result.now c.if-index-rank.false))
