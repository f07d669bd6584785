use Rattle.std.proofs.Common.{◌<◌, ◌∙◌, [], ◌∷◌, ap, length, length-append, slice_get, arith, false}
use Rattle.type_flags.specs.Flags.{flag_at}
use Rattle.finite_types.specs.Flags.{row_option}
use Rattle.finite_types.proofs.FlagLaws.{finite_more}
use Rattle.finite_types.proofs.grown.extend_finite.Goals as goal

pub loop-t-preserved : goal.loop-t-preserved
loop-t-preserved c =
    let e = c.args.types.now in
    let flags = c.loop-t.flags.items in
    let t = c.loop-t.t in
    let q = c.in_ok-push.ensures.items in
    let h : t < length e.rows = omega (arith, c.len-t-end.ensures.count) in
    record {
      count = omega (arith, ap length q, length-append flags (c.later_flag-later.result ∷ []), c.loop-t.invariant.count);
      so_far = λ ds s.
          finite_more e c.len-t-end.ensures.good ds flags c.push.new.self.items t c.later_flag-later.result h
          c.loop-t.invariant.count q
          (c.later_flag-later.ensures
          ∙ ap (λ k. row_option false (flag_at k) (slice_get e.rows t)) c.deref.ensures.value)
          (c.loop-t.invariant.so_far ds s);
    }
