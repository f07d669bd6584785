use Rattle.std.proofs.Common.{◌<◌, ◌≤◌, arith, length}
use Rattle.header_order.proofs.MarkLemmas.{mark_gone, mark_set}
use Rattle.header_order.proofs.kinds.mark.Goals as goal

pub returns-then-number-len : goal.returns-then-number-len
returns-then-number-len c =
    let size = c.len.ensures in
    let l : c.args.number < length c.args.marks.now.items = omega (arith, size, c.if-number-len.true) in
    mark_set c.args.marks.now.items c.args.number l

pub returns-else-number-len : goal.returns-else-number-len
returns-else-number-len c =
    let size = c.len.ensures in
    let l : length c.args.marks.now.items ≤ c.args.number = omega (arith, size, c.if-number-len.false) in
    mark_gone c.args.marks.now.items c.args.number l
