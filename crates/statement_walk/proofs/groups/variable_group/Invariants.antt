use Rattle.std.proofs.Common.{◌≡◌}
use Rattle.jump_rules.specs.UsedLocals.Used.{used_of}
use Rattle.statement_walk.proofs.SpecsLemmas.{ReadTo}
use Rattle.statement_walk.proofs.groups.variable_group.Given as goal

abbrev pub invariant-loop-spec : goal.invariant-loop-spec
invariant-loop-spec l =
    ReadTo l.initial.tables l.tables l.blocks l.initial.scope l.scope l.initial.block.names l.block.names l.spec-items
    l.spec-index (used_of l.initial.used) (used_of l.used) l.initial.pending l.pending
    × (l.block.start ≡ l.initial.block.start)
