use Rattle.std.proofs.Common.{◌≡◌, ◌∙◌, ◌<◌, ◌≤◌, ◌+◌, ◌++◌, ◌∷◌, [], sym, ap, subst, get_or, List, ℕ}
use Rattle.run_ranges.specs.declared.ranges.ChangedRange.{ChangedRange}
use Rattle.run_ranges.specs.declared.ranges.Walk.{Walk}
use Rattle.run_ranges.specs.Walks.{begins, ends, met}
use Rattle.run_ranges.proofs.Stepped.{Kept, joint_fits, met_on, passed}
use Rattle.run_ranges.proofs.joining.joined_ranges.Goals as goal
use Rattle.run_ranges.proofs.joining.joined_ranges.Goals.{then-ends-next+in_ok-push, else-ends-next+else-next-first}

abbrev none : ChangedRange
none = record { start = 0; end = 0; length = 0 }

pub joint-requires-clause-start : goal.joint-requires-clause-start
joint-requires-clause-start c =
    joint_fits c.args.next c.loop-i.walk.from c.loop-i.walk.at c.begins-first.result c.args.made.now c.loop-i.i none c.loop-i-test.true c.loop-i.invariant.room c.begins-first.ensures c.if-next-first.true

pub loop-i-preserved : goal.loop-i-preserved
loop-i-preserved c =
    let next = c.args.next in
    let made = c.args.made.now in
    let i = c.loop-i.i in
    let walk = c.loop-i.walk in
    let r : ChangedRange = get_or made i none in
    let out : List ChangedRange = c.loop-i.joined.items in
    let first : c.begins-first.result ≡ begins walk r = c.begins-first.ensures in
    let last : c.begins-first.result + r.length ≡ ends walk r = ap (λ (n : ℕ). n + r.length) first in
    elim c.if-ends-next.branch [
      | then-ends-next+in_ok-push w ↦
          let walk_is : c.if-ends-next.walk ≡ record walk { from = r.end; at = ends walk r } = w.walk-is ∙ (λ v. record walk { from = r.end; at = last v }) in
          let out_is : c.if-ends-next.joined.items ≡ out ++ r ∷ [] = ap (λ x. x.items) w.joined-is ∙ w.in_ok-push.ensures.items in
          let h : ends walk r < next.start = subst (λ (n : ℕ). n < next.start) last w.if-ends-next.true in
          subst (λ (x : Walk). Kept next made c.if-ends-next.joined.items x (i + 1)) (sym walk_is)
          (subst (λ (xs : List ChangedRange). Kept next made xs (record walk { from = r.end; at = ends walk r }) (i + 1)) (sym out_is)
          (passed next made i none c.loop-i-test.true out walk h c.loop-i.invariant))
      | else-ends-next+else-next-first w ↦
          let walk_is : c.if-ends-next.walk ≡ met next walk r = w.walk-is ∙ w.met-walk.ensures in
          let out_is : c.if-ends-next.joined.items ≡ out = ap (λ x. x.items) w.joined-is in
          let a : next.start ≤ ends walk r = subst (λ (n : ℕ). next.start ≤ n) last w.if-ends-next.false in
          let b : begins walk r ≤ next.end = subst (λ (n : ℕ). n ≤ next.end) first w.if-next-first.false in
          subst (λ (x : Walk). Kept next made c.if-ends-next.joined.items x (i + 1)) (sym walk_is)
          (subst (λ (xs : List ChangedRange). Kept next made xs (met next walk r) (i + 1)) (sym out_is)
          (met_on next made i none c.loop-i-test.true out walk a b c.loop-i.invariant))
    ]
