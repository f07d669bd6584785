use Rattle.std.proofs.Common.{◌∙◌, false, length-set}
use Rattle.param_choice.proofs.Striking.{open_struck, greatest_open}
use Rattle.param_choice.proofs.choice.strike_out.Goals as goal

pub loop-i-preserved : goal.loop-i-preserved
loop-i-preserved c = (
  length-set c.loop-i.kept c.in-Some.i false ∙ c.loop-i.invariant.0,
  λ constants o. open_struck c.args.t.now constants c.loop-i.kept c.in-Some.i c.in-Some.ensures.0 (c.loop-i.invariant.1 constants o) c.in-Some.ensures.1,
)

pub returns : goal.returns
returns c constants o = greatest_open c.args.t.now constants c.loop-i.kept (c.loop-i.invariant.1 constants o) c.in_default.ensures
