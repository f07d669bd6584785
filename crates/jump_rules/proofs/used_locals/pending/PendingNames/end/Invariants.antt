use Rattle.std.proofs.Common.{◌≡◌, drop}
use Rattle.jump_rules.specs.UsedLocals.Pending.{ended}
use Rattle.jump_rules.specs.UsedLocals.Used.{used_of}
use Rattle.jump_rules.proofs.used_locals.pending.PendingNames.end.Given as goal

abbrev pub invariant-loop-pending : goal.invariant-loop-pending
invariant-loop-pending l =
    ended (drop l.pending-index l.pending-items) (used_of l.used) ≡ ended l.pending-items (used_of l.initial.used)
