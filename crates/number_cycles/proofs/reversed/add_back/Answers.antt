use Rattle.std.proofs.Common.{arith}
use Rattle.pkg_graph.proofs.ImportOrder.NumberLaws.{among_at}
use Rattle.number_cycles.proofs.reversed.add_back.Goals as goal

pub add-requires : goal.add-requires
add-requires c =
    let h = c.requires _ (among_at c.args.numbers.now c.loop-m.m-index 0 c.loop-m-test.true) in
    let s = c.loop-m.invariant.size in
    omega (arith, h, s)
