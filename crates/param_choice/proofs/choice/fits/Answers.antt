use Rattle.param_choice.proofs.Striking.{both_pass, first_fails}
use Rattle.param_choice.proofs.choice.fits.Goals as goal

pub returns-then-moves_alone : goal.returns-then-moves_alone
returns-then-moves_alone c =
    both_pass c.args.t.now c.items.result.now _ c.args.constants c.args.i c.moves_alone.result c.precedes_clashing.result
    c.items.ensures c.requires.inside c.moves_alone.ensures c.if-moves_alone.true c.precedes_clashing.ensures

pub returns-else-moves_alone : goal.returns-else-moves_alone
returns-else-moves_alone c =
    first_fails c.args.t.now c.items.result.now _ c.args.constants c.args.i c.moves_alone.result
    c.items.ensures c.requires.inside c.moves_alone.ensures c.if-moves_alone.false
