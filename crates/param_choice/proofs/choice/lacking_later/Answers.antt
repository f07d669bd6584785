use Rattle.std.proofs.Common.{true≢false, sym, ◌∙◌, below_more, arith}
use Rattle.param_choice.proofs.Striking.{match_false, has_within}
use Rattle.param_choice.proofs.choice.lacking_later.Goals as goal
use Rattle.param_choice.proofs.choice.lacking_later.Goals.{else-kept-i-via-then-kept-i+else-lacks_later, else-kept-i-via-else-kept-i}

pub loop-i-preserved : goal.loop-i-preserved
loop-i-preserved c =
    below_more _ _ c.loop-i.invariant
    (elim c.else-kept-i.branch [
      | else-kept-i-via-then-kept-i+else-lacks_later w ↦ (λ j h n. match_false _ _ w.if-lacks_later.false w.lacks_later.ensures j n)
      | else-kept-i-via-else-kept-i w ↦ (λ j h n. absurd (true≢false (sym h ∙ w.if-kept-i.false)))
    ])

pub returns : goal.returns
returns c i j h n = c.loop-i.invariant i (omega (arith, has_within c.args.kept.now i h)) j h n
