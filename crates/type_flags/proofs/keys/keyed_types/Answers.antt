use Rattle.std.proofs.Common.{◌<◌, Bool, List, length, slice_get, ◌∙◌, ap, arith}
use Rattle.type_flags.specs.Flags.{flag_at}
use Rattle.type_flags.specs.Keys.{keys_option}
use Rattle.type_flags.proofs.KeyLaws.{next_keyed, one_more_keyed, all_are_keyed}
use Rattle.type_flags.proofs.keys.keyed_types.Goals as goal

pub loop-t-preserved : goal.loop-t-preserved
loop-t-preserved c =
    let keyed : List Bool = c.loop-t.keyed.items in
    let h : c.loop-t.t < length c.args.env.now.rows = omega (arith, c.len-t-end.ensures.count) in
    one_more_keyed c.args.env.now keyed c.push.new.self.items c.loop-t.t c.row_keyed-has_keys.result
    c.in_ok-push.ensures.items c.loop-t.invariant.0 c.loop-t.invariant.1
    (c.row_keyed-has_keys.ensures
    ∙ ap (λ k. keys_option (flag_at c.args.comparable.now) (flag_at k) (slice_get c.args.env.now.rows c.loop-t.t)) c.deref.ensures.value
    ∙ next_keyed c.args.env.now c.len-t-end.ensures.good c.args.comparable.now c.requires.count c.requires.are keyed
    c.loop-t.t h c.loop-t.invariant.1)

pub returns-clause-are : goal.returns-clause-are
returns-clause-are c =
    all_are_keyed c.args.env.now c.loop-t.keyed.items c.loop-t.t c.loop-t.invariant.0 c.loop-t.invariant.1
