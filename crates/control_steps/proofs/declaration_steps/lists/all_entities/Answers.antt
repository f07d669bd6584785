use Rattle.std.proofs.Common.{◌∙◌, ◌+◌, IfSome, ap, arith, drop, map, subst, sym}
use Rattle.std.proofs.lemmas.List.{length-map}
use Rattle.type_table.specs.TypeRelations.Environment.{defined_types}
use Rattle.typed_names.proofs.TypeExprs.NewNames.{drop_all}
use Rattle.type_table.specs.OperandRules.Values.{typed_of}
use Rattle.operator_rules.specs.Settling.{typed_option}
use Rattle.operator_rules.proofs.AccessRules.CallLemmas.{value_item}
use Rattle.typed_names.specs.Meanings.{entity_option}
use Rattle.operand_modes.specs.OperandAnswers.Known.{IsEntity}
use Rattle.control_steps.specs.DeclarationSteps.Entities.{BoundSoFar, entity_for}
use Rattle.control_steps.proofs.DeclarationSteps.BindLemmas.{bound_end, bound_fails, bound_more, bound_start}
use Rattle.control_steps.proofs.declaration_steps.lists.all_entities.Goals as goal

pub declared_entity-requires-clause-value : goal.declared_entity-requires-clause-value
declared_entity-requires-clause-value c =
    let k = c.args.tables.now in
    value_item k.env k.consts c.args.xs.now c.loop-x.x-index _ c.requires.values (omega arith)

pub loop-x-init : goal.loop-x-init
loop-x-init c =
    let k = c.args.tables.now in
    let f = entity_for c.args.declares (defined_types k.env) (typed_option k.env c.args.of) in
    let vs = map (typed_of k.env k.consts) c.args.xs.now in
    subst (BoundSoFar k.env k.consts f vs vs) (sym c.new-entities.ensures.items) (bound_start k.env k.consts f vs)

pub loop-x-preserved : goal.loop-x-preserved
loop-x-preserved c =
    let k = c.args.tables.now in
    let f = entity_for c.args.declares (defined_types k.env) (typed_option k.env c.args.of) in
    let g = typed_of k.env k.consts in
    let xs = c.args.xs.now in
    let i = c.loop-x.x-index in
    subst (BoundSoFar k.env k.consts f (map g xs) (map g (drop (i + 1) xs))) (sym c.in_ok-push-in-Some.ensures.items)
    (bound_more k.env k.consts f g xs i _ c.loop-x.entities.items c.loop-x-test.true c.loop-x.invariant c.in-Some.entity
    (sym c.declared_entity.ensures.is ∙ ap (entity_option k.env k.consts) c.in-Some.is)
    (subst (λ r. IfSome r (IsEntity k.env k.consts)) c.in-Some.is c.declared_entity.ensures.there))

pub returns-in-None : goal.returns-in-None
returns-in-None c =
    λ ns l.
    let k = c.args.tables.now in
    let f = entity_for c.args.declares (defined_types k.env) (typed_option k.env c.args.of) in
    bound_fails k.env k.consts f (typed_of k.env k.consts) c.args.xs.now c.loop-x.x-index _ c.loop-x.entities.items
    c.loop-x-test.true c.loop-x.invariant
    (sym c.declared_entity.ensures.is ∙ ap (entity_option k.env k.consts) c.in-None.is) ns

pub returns : goal.returns
returns c =
    λ ns l.
    let k = c.args.tables.now in
    let f = entity_for c.args.declares (defined_types k.env) (typed_option k.env c.args.of) in
    let g = typed_of k.env k.consts in
    let xs = c.args.xs.now in
    let r = subst (λ zs. BoundSoFar k.env k.consts f (map g xs) (map g zs) c.loop-x.entities.items)
    (drop_all xs c.loop-x.x-index c.loop-x-test.false) c.loop-x.invariant in
    let m = length-map xs g in
    (r.there, bound_end k.env k.consts f (map g xs) c.loop-x.entities.items r ns (omega (arith, l, m)))
