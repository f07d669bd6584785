use Rattle.std.proofs.Common.{List, ℕ, Option, arith, subst, sym}
use Rattle.pkg_graph.proofs.ImportOrder.WalkLaws.{reaches_within}
use Rattle.number_cycles.specs.Owners.{AreOwnedBack}
use Rattle.number_cycles.proofs.Closed.{owned_back}
use Rattle.number_cycles.proofs.cycles.on_cycles.Goals as goal

pub is_on_cycle-requires-clause-backs : goal.is_on_cycle-requires-clause-backs
is_on_cycle-requires-clause-backs c =
    subst (λ (os : List (Option ℕ)). AreOwnedBack c.args.links.now os) (sym c.deref-in-loop-k.ensures.value)
    (owned_back c.args.links.now _ c.in_ok-backs.backs.items c.in_ok-back.ensures.back c.in_ok-backs.ensures.owned)

pub returns-clause-off : goal.returns-clause-off
returns-clause-off c =
    λ k e r.
    let h = reaches_within c.args.links.now k k r in
    let s = c.loop-k.invariant.size in
    let t = c.loop-k-test.false in
    let n = c.len-k-end.ensures in
    c.loop-k.invariant.off k (omega (arith, h, s, t, n)) e r
