use Rattle.std.proofs.Common.{◌≤◌, length, sym, subst}
use Rattle.scope_tables.specs.NamedScopes.{IsKept, Ended, Follows}
use Rattle.scope_tables.proofs.NamedLaws.{kept_push}
use Rattle.scope_tables.proofs.named.NamedScopes.push.Goals as goal

pub invariant_of-self-2 : goal.invariant_of-self-2
invariant_of-self-2 c =
    let far = c.far_way-far.result in
    subst (IsKept c.stays_in_order-in_order.result) (sym c.in_ok-push.ensures.items)
    (kept_push c.self.inside.held.items (record { declared_at = c.args.declared_at; from = c.args.from; to = c.args.to; before = c.reach-before.result; far = far })
    c.self.inside.in_order c.stays_in_order-in_order.result c.self.invariant
    (subst (λ hs. c.reach-before.result ≤ length hs) c.deref.ensures.value c.reach-before.ensures.within)
    (subst (λ hs. Ended c.args.to hs c.reach-before.result) c.deref.ensures.value c.reach-before.ensures.ended)
    (subst (λ hs. far.first ≤ length hs) c.deref-2.ensures.value c.far_way-far.ensures.within)
    (subst (λ hs. Ended far.ended hs far.first) c.deref-2.ensures.value c.far_way-far.ensures.ended)
    c.far_way-far.ensures.last
    c.stays_in_order-in_order.ensures.before (λ e. subst (λ hs. Follows hs c.args.from) c.deref-3.ensures.value (c.stays_in_order-in_order.ensures.last e)))
