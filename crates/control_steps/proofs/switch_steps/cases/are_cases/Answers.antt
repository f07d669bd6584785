use Rattle.std.proofs.Common.{◌∙◌, arith, sym}
use Rattle.operator_rules.proofs.AccessRules.CallLemmas.{value_item}
use Rattle.control_steps.proofs.SwitchSteps.SwitchLemmas.{compared_fails, compared_more, compared_start, kept_value}
use Rattle.control_steps.proofs.switch_steps.cases.are_cases.Goals as goal

pub is_case-requires-clause-ready : goal.is_case-requires-clause-ready
is_case-requires-clause-ready c = c.loop-x.invariant.ready

pub is_case-requires-clause-tag : goal.is_case-requires-clause-tag
is_case-requires-clause-tag c =
    kept_value c.args.tables.now c.loop-x.tables c.loop-x.invariant.keeps c.args.tag c.requires.tag

pub is_case-requires-clause-value : goal.is_case-requires-clause-value
is_case-requires-clause-value c =
    let k = c.args.tables.now in
    kept_value k c.loop-x.tables c.loop-x.invariant.keeps _
    (value_item k.env k.consts c.args.xs.now c.loop-x.x-index _ c.requires.values (omega arith))

pub loop-x-init : goal.loop-x-init
loop-x-init c = compared_start c.args.tables.now c.args.tag c.args.xs.now c.requires.ready

pub loop-x-preserved : goal.loop-x-preserved
loop-x-preserved c =
    let k = c.args.tables.now in
    let m = c.loop-x.tables in
    let i = c.loop-x.x-index in
    compared_more k m c.is_case.new.tables c.args.tag c.args.xs.now i _ c.loop-x-test.true c.loop-x.invariant c.requires.tag
    (value_item k.env k.consts c.args.xs.now i _ c.requires.values (omega arith)) c.is_case.ensures.ready
    c.is_case.ensures.keeps (sym c.if-not-branch.false ∙ c.in_ok-is_case.ensures.is)

pub returns-then-not-branch-clause-are : goal.returns-then-not-branch-clause-are
returns-then-not-branch-clause-are c =
    let k = c.args.tables.now in
    let i = c.loop-x.x-index in
    compared_fails k c.loop-x.tables c.is_case.new.tables c.args.tag c.args.xs.now i _ c.loop-x-test.true
    c.loop-x.invariant c.requires.tag (value_item k.env k.consts c.args.xs.now i _ c.requires.values (omega arith))
    (sym c.if-not-branch.true ∙ c.in_ok-is_case.ensures.is)
