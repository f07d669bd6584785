use Rattle.std.proofs.Common.{true≢false, sym, ap, ◌∙◌, refl, length, below_more, arith}
use Rattle.std.proofs.lemmas.Option.{slice_get_within}
use Rattle.param_choice.proofs.choice.precedes_clashing.Goals as goal

pub returns-then-not-precedes : goal.returns-then-not-precedes
returns-then-not-precedes c =
    ((λ e. absurd (true≢false (sym e))), (λ f. sym c.if-not-precedes.true ∙ c.precedes.ensures.1 (f c.loop-j.j)))

pub loop-j-preserved : goal.loop-j-preserved
loop-j-preserved c = below_more _ _ c.loop-j.invariant (c.precedes.ensures.0 c.if-not-precedes.false)

pub returns : goal.returns
returns c =
    ((λ _ j n. c.loop-j.invariant j (omega (arith, slice_get_within c.args.t.now.rows j n.other n.at_other, ap length c.items-j-end.ensures)) n), (λ _. refl))
