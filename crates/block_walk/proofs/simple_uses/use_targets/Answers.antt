use Rattle.std.proofs.Common.{◌≡◌, OnOk, subst, sym}
use Rattle.go_tree.specs.View.{exprs_of}
use Rattle.statement_walk.proofs.ExprArms.{at}
use Rattle.jump_rules.specs.UsedLocals.Used.{and_names, used_of}
use Rattle.block_walk.specs.Answers.{target_uses}
use Rattle.block_walk.proofs.simple_uses.use_targets.Goals as goal

pub returns-in-None-clause-uses : goal.returns-in-None-clause-uses
returns-in-None-clause-uses c =
    let a = at c.args.tables.now c.args.blocks.now c.args.scope.now in
    subst
    (λ op. OnOk c.use_left.result (used_of c.use_left.new.used ≡ and_names (target_uses a (exprs_of c.args.es.now) op) (used_of c.args.used.now)))
    (sym c.in-None.is) c.use_left.ensures.uses

pub returns-in-Some-clause-uses : goal.returns-in-Some-clause-uses
returns-in-Some-clause-uses c =
    let a = at c.args.tables.now c.args.blocks.now c.args.scope.now in
    subst
    (λ op. OnOk c.use_exprs_at.result (used_of c.use_exprs_at.new.used ≡ and_names (target_uses a (exprs_of c.args.es.now) op) (used_of c.args.used.now)))
    (sym c.in-Some.is) c.use_exprs_at.ensures.uses
