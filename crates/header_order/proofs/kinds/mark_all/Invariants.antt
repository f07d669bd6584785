use Rattle.std.proofs.Common.{◌≡◌, drop}
use Rattle.header_order.specs.Kinds.{mark_all}
use Rattle.header_order.proofs.kinds.mark_all.Given as goal

abbrev pub invariant-loop-number : goal.invariant-loop-number
invariant-loop-number l =
    mark_all (drop l.number-index l.numbers) l.marks.items ≡ mark_all l.numbers l.initial.marks.items
