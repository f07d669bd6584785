use Rattle.std.proofs.Common.{◌≡◌, ℕ, true, List, arith, slice_index_or, subst}
use Rattle.pkg_graph.specs.ImportOrder.Numbers.{is_among}
use Rattle.pkg_graph.proofs.ImportOrder.NumberLaws.{among_at}
use Rattle.number_cycles.proofs.Owned.{from_more}
use Rattle.number_cycles.proofs.owners.take_row.Goals as goal

pub take-requires-clause-within : goal.take-requires-clause-within
take-requires-clause-within c =
    let m = slice_index_or c.row-m-items.result.now c.loop-m.m-index 0 in
    let e = subst (λ (xs : List ℕ). is_among xs m ≡ true) c.row-m-items.ensures
    (among_at c.row-m-items.result.now c.loop-m.m-index 0 c.loop-m-test.true) in
    let h = c.requires.links c.args.k m e in
    let s = c.requires.size in
    let t = c.loop-m.auto.owners in
    omega (arith, h, s, t)

pub take-requires-clause-from : goal.take-requires-clause-from
take-requires-clause-from c =
    let m = slice_index_or c.row-m-items.result.now c.loop-m.m-index 0 in
    from_more c.args.links.now c.args.root c.args.k m c.requires.from
    (subst (λ (xs : List ℕ). is_among xs m ≡ true) c.row-m-items.ensures
    (among_at c.row-m-items.result.now c.loop-m.m-index 0 c.loop-m-test.true))
