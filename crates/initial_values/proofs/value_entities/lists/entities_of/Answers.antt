use Rattle.std.proofs.Common.{◌+◌, drop, subst, sym}
use Rattle.type_table.specs.TypeRelations.Environment.{defined_types}
use Rattle.operator_rules.specs.Settling.{typed_option}
use Rattle.initial_values.specs.ValueEntities.Steps.{AreRead}
use Rattle.initial_values.proofs.ValueEntities.ListLemmas.{read_more}
use Rattle.initial_values.proofs.value_entities.lists.entities_of.Goals as goal

pub loop-operand-preserved : goal.loop-operand-preserved
loop-operand-preserved c =
    let e = c.args.tables.now.env in
    let cs = c.args.tables.now.consts in
    let ds = defined_types e in
    let t = typed_option e c.args.of in
    let all = c.args.operands.now in
    let i = c.loop-operand.operand-index in
    subst (AreRead e cs c.args.kind ds t all (drop (i + 1) all)) (sym c.in_ok-push-in-Some.ensures.items)
    (read_more e cs c.args.kind ds t all i _ c.loop-operand.items.items c.loop-operand-test.true c.loop-operand.invariant
    c.in-Some.entity c.in-Some.ensures.is c.in-Some.ensures.there)
