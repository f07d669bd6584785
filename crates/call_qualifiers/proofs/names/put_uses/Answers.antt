use Rattle.std.proofs.Common.{◌∙◌}
use Rattle.call_forms.specs.Qualifiers.{at_span}
use Rattle.call_qualifiers.proofs.Puts.{one_put, all_put}
use Rattle.call_qualifiers.proofs.names.put_uses.Goals as goal

pub loop-use_-preserved : goal.loop-use_-preserved
loop-use_-preserved c = (
  c.in_ok-put_use.ensures.packages ∙ c.loop-use_.invariant.0,
  λ q.
      one_put c.args.home c.args.there c.args.uses.now c.loop-use_.use_-index c.use_-item.result q
      (at_span q c.loop-use_.qualifiers.before) (at_span q c.put_use.new.qualifiers.before) _ c.loop-use_-test.true
      c.use_-item.is (c.in_ok-put_use.ensures.before q) (c.loop-use_.invariant.1 q),
)

pub returns-clause-packages : goal.returns-clause-packages
returns-clause-packages c = c.loop-use_.invariant.0

pub returns-clause-before : goal.returns-clause-before
returns-clause-before c =
    λ q.
    all_put c.args.home c.args.there c.args.uses.now c.loop-use_.use_-index q
    (at_span q c.loop-use_.qualifiers.before) _ c.loop-use_-test.false (c.loop-use_.invariant.1 q)
