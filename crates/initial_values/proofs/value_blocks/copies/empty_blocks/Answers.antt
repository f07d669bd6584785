use Rattle.std.proofs.Common.{◌≡◌, ◌∙◌, [], ◌∷◌, ◌++◌, ap, ap₂, arith, subst}
use Rattle.std.specs.Prelude.{replicate}
use Rattle.initial_values.proofs.ValueBlocks.ListLemmas.{one_more}
use Rattle.initial_values.proofs.value_blocks.copies.empty_blocks.Goals as goal

pub loop-preserved : goal.loop-preserved
loop-preserved c =
    c.in_ok-push.ensures.added ∙ ap₂ (λ bs b. bs ++ b ∷ []) c.loop.invariant c.new.ensures
    ∙ one_more c.loop.counter []

pub returns : goal.returns
returns c =
    let same : c.loop.counter ≡ c.args.count = omega arith in
    subst (λ n. c.loop.blocks ≡ replicate n []) same c.loop.invariant
