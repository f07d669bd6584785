use Rattle.statement_walk.proofs.SimpleWalk.ConstantGroups.MemberLemmas.{stands_after, stands_numbered}
use Rattle.statement_walk.proofs.simple_walk.constant_groups.members.numbered_values.Goals as goal

pub all_exprs-values-requires-clause-stands : goal.all_exprs-values-requires-clause-stands
all_exprs-values-requires-clause-stands c =
    stands_numbered c.args.tables.now c.args.blocks.now c.args.scope.now c.args.number c.requires.stands

pub returns-clause-stands : goal.returns-clause-stands
returns-clause-stands c =
    stands_after c.all_exprs-values.new.tables c.args.blocks.now c.args.scope.now c.args.number
    c.all_exprs-values.ensures.stands
