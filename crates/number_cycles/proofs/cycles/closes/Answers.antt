use Rattle.std.proofs.Common.{◌≡◌, ℕ, true, List, slice_index_or, subst}
use Rattle.pkg_graph.specs.ImportOrder.Numbers.{is_among}
use Rattle.pkg_graph.proofs.ImportOrder.NumberLaws.{among_at}
use Rattle.number_cycles.proofs.cycles.closes.Goals as goal

pub closes_by-requires-clause-link : goal.closes_by-requires-clause-link
closes_by-requires-clause-link c =
    let m = slice_index_or c.row-m-items.result.now c.loop-m.m-index 0 in
    subst (λ (xs : List ℕ). is_among xs m ≡ true) c.row-m-items.ensures
    (among_at c.row-m-items.result.now c.loop-m.m-index 0 c.loop-m-test.true)
