use Rattle.std.proofs.Common.{arith, map}
use Rattle.std.proofs.lemmas.List.{length-map}
use Rattle.type_table.specs.TypeRelations.Environment.{defined_types}
use Rattle.type_table.specs.OperandRules.Values.{typed_of}
use Rattle.operator_rules.specs.Settling.{typed_option}
use Rattle.control_steps.specs.DeclarationSteps.Entities.{entity_for}
use Rattle.control_steps.proofs.DeclarationSteps.BindLemmas.{bind_unequal}
use Rattle.control_steps.proofs.declaration_steps.lists.declared_entities.Goals as goal

pub returns-then-xs-count : goal.returns-then-xs-count
returns-then-xs-count c =
    λ ns l.
    let k = c.args.tables.now in
    let m = length-map c.args.xs.now (typed_of k.env k.consts) in
    bind_unequal k.env k.consts (entity_for c.args.declares (defined_types k.env) (typed_option k.env c.args.of)) ns
    (map (typed_of k.env k.consts) c.args.xs.now) (omega (arith, l, m))

pub returns : goal.returns
returns c = λ ns l. c.all_entities.ensures ns (omega (arith, l))
