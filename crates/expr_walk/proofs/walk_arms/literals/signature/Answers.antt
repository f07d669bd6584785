use Rattle.expr_walk.proofs.WalkArms.LiteralLemmas.{stands_with}
use Rattle.expr_walk.proofs.walk_arms.literals.signature.Goals as goal

pub returns-clause-stands : goal.returns-clause-stands
returns-clause-stands c =
    stands_with c.args.tables.now c.func_type.new.types c.func_type.new.flags c.func_type.ensures.grown c.args.blocks.now
    c.args.scope.now c.requires.stands (c.func_type.ensures.values c.requires.stands.ready.values)
    c.func_type.ensures.flags c.func_type.ensures.defined

pub returns-clause-gives : goal.returns-clause-gives
returns-clause-gives c = c.func_type.ensures.gives c.args.tables.now.consts
