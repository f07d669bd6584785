use Rattle.go_tree.specs.View.{exprs_of}
use Rattle.expr_walk.proofs.WalkArms.ExprArms.{at}
use Rattle.jump_rules.specs.UsedLocals.Used.{used_of}
use Rattle.statement_walk.proofs.FunctionLiterals.LiteralUses.{all_outer_used}
use Rattle.statement_walk.proofs.walked_uses.use_exprs_at.Goals as goal

pub returns-clause-uses : goal.returns-clause-uses
returns-clause-uses c =
    all_outer_used (at c.args.tables.now c.args.blocks.now c.args.scope.now) (exprs_of c.args.es.now) c.use_exprs.result
    (used_of c.args.used.now) (used_of c.use_exprs.new.used) c.requires.literals c.use_exprs.ensures.uses
