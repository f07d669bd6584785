use Rattle.std.proofs.Common.{◌∙◌, ap, subst, sym}
use Rattle.type_table.specs.TypeRelations.Environment.{defined_types}
use Rattle.operator_rules.specs.AccessRules.Slices.{IsBoundValue, bound_of}
use Rattle.control_steps.proofs.OperandTests.{passes_test}
use Rattle.control_steps.proofs.conditions.is_optional_condition.Goals as goal

pub is_truth-requires : goal.is_truth-requires
is_truth-requires c =
    (subst (IsBoundValue c.args.tables.now.env c.args.tables.now.consts) c.in-Some.is c.requires).of

pub returns-in-Some : goal.returns-in-Some
returns-in-Some c =
    let k = c.args.tables.now in
    c.is_truth.ensures ∙ ap (λ x. passes_test (defined_types k.env) (bound_of k.env k.consts x)) (sym c.in-Some.is)

pub returns-in-None : goal.returns-in-None
returns-in-None c =
    let k = c.args.tables.now in
    ap (λ x. passes_test (defined_types k.env) (bound_of k.env k.consts x)) (sym c.in-None.is)
