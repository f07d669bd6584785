use Rattle.go_tree.specs.View.{exprs_of}
use Rattle.expr_walk.proofs.WalkArms.ExprArms.{at}
use Rattle.jump_rules.specs.UsedLocals.Used.{used_of}
use Rattle.statement_walk.proofs.FunctionLiterals.NoLiterals.{none_of_all_used}
use Rattle.statement_walk.proofs.walked_uses.use_exprs.Goals as goal

pub use_exprs_at-requires-clause-literals : goal.use_exprs_at-requires-clause-literals
use_exprs_at-requires-clause-literals c =
    none_of_all_used (at c.args.tables.now c.args.blocks.now c.args.scope.now) (used_of c.args.used.now)
    (exprs_of c.args.es.now) c.requires.walked
