use Rattle.go_tree.specs.View.{expr_of}
use Rattle.expr_walk.proofs.WalkArms.ExprArms.{at}
use Rattle.jump_rules.specs.UsedLocals.Used.{used_of}
use Rattle.statement_walk.proofs.FunctionLiterals.NoLiterals.{none_used}
use Rattle.statement_walk.proofs.walked_uses.use_expr.Goals as goal

pub use_expr_at-requires-clause-literals : goal.use_expr_at-requires-clause-literals
use_expr_at-requires-clause-literals c =
    none_used (at c.args.tables.now c.args.blocks.now c.args.scope.now) (used_of c.args.used.now) (expr_of c.args.e.now)
    c.requires.walked
