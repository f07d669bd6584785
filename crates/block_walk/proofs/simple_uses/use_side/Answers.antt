use Rattle.std.proofs.Common.{◌≡◌, ◌∙◌, OnOk, subst, sym}
use Rattle.go_tree.specs.View.{expr_of}
use Rattle.statement_walk.proofs.ExprArms.{at}
use Rattle.jump_rules.specs.UsedLocals.Used.{and_names, used_of}
use Rattle.block_walk.proofs.SimpleLemmas.{name_unused, side_used}
use Rattle.block_walk.proofs.simple_uses.use_side.Goals as goal

pub returns-then-is_name-clause-uses : goal.returns-then-is_name-clause-uses
returns-then-is_name-clause-uses c =
    name_unused (at c.args.tables.now c.args.blocks.now c.args.scope.now) (expr_of c.args.e.now) (used_of c.args.used.now)
    (sym c.is_name.ensures ∙ c.if-is_name.true)

pub returns-else-is_name-clause-uses : goal.returns-else-is_name-clause-uses
returns-else-is_name-clause-uses c =
    subst (λ ns. OnOk c.use_expr_at.result (used_of c.use_expr_at.new.used ≡ and_names ns (used_of c.args.used.now)))
    (side_used (at c.args.tables.now c.args.blocks.now c.args.scope.now) (expr_of c.args.e.now)
    (sym c.is_name.ensures ∙ c.if-is_name.false))
    c.use_expr_at.ensures.uses
