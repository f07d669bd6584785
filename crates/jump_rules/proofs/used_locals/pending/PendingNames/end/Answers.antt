use Rattle.std.proofs.Common.{◌∙◌, ap}
use Rattle.jump_rules.specs.UsedLocals.Pending.{ended}
use Rattle.jump_rules.specs.UsedLocals.Used.{set_name, used_of}
use Rattle.jump_rules.proofs.UsedLocals.PendingLemmas.{ended_end, ended_more}
use Rattle.jump_rules.proofs.used_locals.pending.PendingNames.end.Goals as goal

pub loop-pending-preserved : goal.loop-pending-preserved
loop-pending-preserved c =
    let xs = c.deref-pending-items.result.now in
    let x = c.pending-item.result in
    ended_more xs c.loop-pending.pending-index x c.loop-pending-test.true c.pending-item.is (used_of c.loop-pending.used)
    (used_of c.set.new.self) (ended xs (used_of c.args.used.now))
    (c.in_ok-set.ensures.set ∙ ap (λ n. set_name n x.before (used_of c.loop-pending.used)) c.items.ensures)
    c.loop-pending.invariant

pub returns : goal.returns
returns c =
    let xs = c.deref-pending-items.result.now in
    ended_end xs c.loop-pending.pending-index c.loop-pending-test.false (used_of c.loop-pending.used)
    (ended xs (used_of c.args.used.now)) c.loop-pending.invariant
    ∙ ap (λ xs. ended xs (used_of c.args.used.now)) (c.deref-pending-items.ensures.value ∙ c.self.view_is)
