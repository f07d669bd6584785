use Rattle.std.proofs.Common.{◌≡◌, drop}
use Rattle.jump_rules.specs.UsedLocals.Pending.{all_pass}
use Rattle.jump_rules.specs.UsedLocals.Used.{used_of}
use Rattle.jump_rules.proofs.used_locals.pending.PendingNames.all_pass.Given as goal

abbrev pub invariant-loop-pending : goal.invariant-loop-pending
invariant-loop-pending l =
    all_pass (drop l.pending-index l.pending-items) (used_of l.used) ≡ all_pass l.pending-items (used_of l.used)
