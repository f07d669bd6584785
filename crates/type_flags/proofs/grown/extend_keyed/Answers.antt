use Rattle.std.proofs.Common.{◌<◌, Bool, List, length, slice_get, ◌∙◌, ap, arith}
use Rattle.type_flags.specs.Flags.{flag_at}
use Rattle.type_flags.specs.Keys.{is_keyed, keys_option}
use Rattle.type_flags.proofs.KeyLaws.{next_keyed}
use Rattle.type_flags.proofs.GrownFlags.{one_more, flags_are}
use Rattle.type_flags.proofs.grown.extend_keyed.Goals as goal

pub loop-t-preserved : goal.loop-t-preserved
loop-t-preserved c =
    let keyed : List Bool = c.loop-t.keyed.items in
    let h : c.loop-t.t < length c.args.env.now.rows = omega (arith, c.len-t-end.ensures.count) in
    one_more (is_keyed c.args.env.now) keyed c.push.new.self.items c.loop-t.t c.row_keyed-has_keys.result
    c.in_ok-push.ensures.items c.loop-t.invariant
    (c.row_keyed-has_keys.ensures
    ∙ ap (λ k. keys_option (flag_at c.args.comparable.now) (flag_at k) (slice_get c.args.env.now.rows c.loop-t.t)) c.deref.ensures.value
    ∙ next_keyed c.args.env.now c.len-t-end.ensures.good c.args.comparable.now c.requires.count c.requires.comparable keyed
    c.loop-t.t h c.loop-t.invariant.1)

pub returns-clause-are : goal.returns-clause-are
returns-clause-are c = flags_are (is_keyed c.args.env.now) c.loop-t.keyed.items c.loop-t.t c.loop-t.invariant
