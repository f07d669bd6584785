use Rattle.std.proofs.Common.{◌≡◌}
use Rattle.jump_rules.specs.UsedLocals.Used.{used_of}
use Rattle.statement_walk.proofs.ConstantLemmas.{ConstantsTo}
use Rattle.statement_walk.proofs.constants.constant_group.Given as goal

abbrev pub invariant-loop-i : goal.invariant-loop-i
invariant-loop-i l =
    ConstantsTo l.initial.tables l.tables l.blocks l.initial.scope l.scope l.initial.block.names l.block.names l.items l.i
    l.from (used_of l.initial.used) (used_of l.used) l.initial.pending l.pending
    × (l.block.start ≡ l.initial.block.start)
