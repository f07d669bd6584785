use Rattle.go_tree.specs.View.{expr_of}
use Rattle.expr_walk.proofs.WalkArms.ExprArms.{at}
use Rattle.jump_rules.specs.UsedLocals.Used.{used_of}
use Rattle.statement_walk.proofs.FunctionLiterals.LiteralUses.{outer_used}
use Rattle.statement_walk.proofs.walked_uses.use_expr_at.Goals as goal

pub returns-clause-uses : goal.returns-clause-uses
returns-clause-uses c =
    outer_used (at c.args.tables.now c.args.blocks.now c.args.scope.now) (expr_of c.args.e.now) c.use_expr.result
    (used_of c.args.used.now) (used_of c.use_expr.new.used) c.requires.literals c.use_expr.ensures.uses
