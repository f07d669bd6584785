use Rattle.go_tree.specs.View.{exprs_of}
use Rattle.expr_walk.proofs.BodilessWalks.{all_at}
use Rattle.expr_walk.proofs.WalkArms.ExprArms.{at}
use Rattle.expr_walk.proofs.bodiless.all_exprs.Goals as goal

pub all_exprs-requires-clause-walked : goal.all_exprs-requires-clause-walked
all_exprs-requires-clause-walked c =
    all_at (at c.args.tables.now c.args.blocks.now c.args.scope.now) (exprs_of c.args.es.now) c.requires.walked
