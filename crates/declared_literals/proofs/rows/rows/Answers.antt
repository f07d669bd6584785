use Rattle.std.proofs.Common.{◌≡◌, suc, ◌+◌, length, arith}
use Rattle.declared_literals.proofs.RowLemmas.{one_more_row, all_rows}
use Rattle.declared_literals.proofs.rows.rows.Goals as goal

pub loop-number-preserved : goal.loop-number-preserved
loop-number-preserved c =
    let next : c.loop-number.number + 1 ≡ suc c.loop-number.number = omega arith in
    one_more_row c.args.tables.now.env c.loop-number.number (c.loop-number.number + 1) c.loop-number.rows.items
    c.push.new.self.items c.row.result next c.in_ok-push.ensures.items c.loop-number.invariant c.row.ensures

pub returns : goal.returns
returns c =
    let all : c.loop-number.number ≡ length c.args.tables.now.env.rows =
    omega (arith, c.loop-number-test.false, c.loop-number.auto.number-end, c.len-number-end.ensures.count) in
    all_rows c.args.tables.now.env c.loop-number.number c.loop-number.rows.items all c.loop-number.invariant
