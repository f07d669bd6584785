use Rattle.std.proofs.Common.{◌≡◌, length}
use Rattle.declared_literals.specs.Numbers.{AreNumberedSoFar}
use Rattle.declared_literals.proofs.numbers.numbers.Given as goal

abbrev pub invariant-loop-header : goal.invariant-loop-header
invariant-loop-header l =
    (length l.names.items ≡ length l.blocks)
    × AreNumberedSoFar l.blocks l.files l.names.items l.headers l.header-index
