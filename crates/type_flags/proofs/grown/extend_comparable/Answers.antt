use Rattle.std.proofs.Common.{◌<◌, ◌≤◌, Bool, List, ◌∷◌, [], length, length-append, slice_get, ◌∙◌, ap, arith}
use Rattle.type_flags.specs.Comparable.{is_comparable}
use Rattle.type_flags.specs.Flags.{flag_at}
use Rattle.type_flags.specs.Grown.{later_option}
use Rattle.type_flags.proofs.GrownFlags.{one_more, flags_are, next_comparable, defined_more}
use Rattle.type_flags.proofs.grown.extend_comparable.Goals as goal

pub loop-t-preserved : goal.loop-t-preserved
loop-t-preserved c =
    let flags : List Bool = c.loop-t.flags.items in
    let new : List Bool = c.push.new.self.items in
    let h : c.loop-t.t < length c.args.env.now.rows = omega (arith, c.len-t-end.ensures.count) in
    let more : length flags ≤ length new =
    omega (arith, ap length c.in_ok-push.ensures.items, length-append flags (c.later_flag-later.result ∷ [])) in record {
      below =
          one_more (is_comparable c.args.env.now) flags new c.loop-t.t c.later_flag-later.result
          c.in_ok-push.ensures.items c.loop-t.invariant.below
          (c.later_flag-later.ensures
          ∙ ap (λ k. later_option (flag_at k) (slice_get c.args.env.now.rows c.loop-t.t)) c.deref.ensures.value
          ∙ next_comparable c.args.env.now c.len-t-end.ensures.good flags c.loop-t.t h c.loop-t.invariant.below
          c.loop-t.invariant.defined);
      defined = defined_more (length flags) (length new) c.args.env.now.defined more c.loop-t.invariant.defined;
    }

pub returns-clause-are : goal.returns-clause-are
returns-clause-are c =
    flags_are (is_comparable c.args.env.now) c.loop-t.flags.items c.loop-t.t c.loop-t.invariant.below
