use Rattle.std.proofs.Common.{arith}
use Rattle.file_tables.proofs.DependencyOrder.Rows.{adds_nothing, one_taken, all_taken}
use Rattle.file_tables.proofs.dependency_order.links.add_links.Goals as goal

pub loop-number-init : goal.loop-number-init
loop-number-init c = adds_nothing c.args.row c.args.rows.now

pub loop-number-preserved : goal.loop-number-preserved
loop-number-preserved c =
    one_taken c.args.row c.args.numbers.now c.loop-number.number-index 0 c.args.rows.now c.loop-number.rows c.add.new.self
    c.loop-number-test.true c.requires c.loop-number.invariant c.in_ok-add.ensures

pub returns : goal.returns
returns c = all_taken c.args.row c.args.numbers.now c.loop-number.number-index c.args.rows.now c.loop-number.rows c.loop-number-test.false c.loop-number.invariant

pub add-requires : goal.add-requires
add-requires c = omega (arith, c.loop-number.invariant.size, c.requires)
