use Rattle.std.proofs.Common.{◌∙◌, ap, sym}
use Rattle.jump_rules.specs.UsedLocals.Pending.{all_pass}
use Rattle.jump_rules.specs.UsedLocals.Used.{used_of}
use Rattle.jump_rules.proofs.UsedLocals.PendingLemmas.{pass_end, pass_more, pass_none}
use Rattle.jump_rules.proofs.used_locals.pending.PendingNames.all_pass.Goals as goal

pub returns-then-not-passes : goal.returns-then-not-passes
returns-then-not-passes c =
    let xs = c.deref-pending-items.result.now in
    let p = used_of c.args.used.now in
    pass_none xs c.loop-pending.pending-index c.pending-item.result c.loop-pending-test.true c.pending-item.is p
    (sym c.if-not-passes.true ∙ c.passes.ensures) c.loop-pending.invariant
    ∙ ap (λ xs. all_pass xs p) (c.deref-pending-items.ensures.value ∙ c.self.view_is)

pub loop-pending-preserved : goal.loop-pending-preserved
loop-pending-preserved c =
    let xs = c.deref-pending-items.result.now in
    let p = used_of c.args.used.now in
    pass_more xs c.loop-pending.pending-index c.pending-item.result c.loop-pending-test.true c.pending-item.is p
    (sym c.if-not-passes.false ∙ c.passes.ensures) c.loop-pending.invariant

pub returns : goal.returns
returns c =
    let xs = c.deref-pending-items.result.now in
    pass_end xs c.loop-pending.pending-index c.loop-pending-test.false (used_of c.args.used.now) c.loop-pending.invariant
    ∙ ap (λ xs. all_pass xs (used_of c.args.used.now)) (c.deref-pending-items.ensures.value ∙ c.self.view_is)
