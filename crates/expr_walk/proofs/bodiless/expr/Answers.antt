use Rattle.go_tree.specs.View.{expr_of}
use Rattle.expr_walk.proofs.BodilessWalks.{walked_at}
use Rattle.expr_walk.proofs.WalkArms.ExprArms.{at}
use Rattle.expr_walk.proofs.bodiless.expr.Goals as goal

pub expr-requires-clause-walked : goal.expr-requires-clause-walked
expr-requires-clause-walked c =
    walked_at (at c.args.tables.now c.args.blocks.now c.args.scope.now) (expr_of c.args.e.now) c.requires.walked
