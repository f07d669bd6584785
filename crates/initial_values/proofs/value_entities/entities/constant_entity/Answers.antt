use Rattle.std.proofs.Common.{◌∙◌, IfSome, subst, sym}
use Rattle.type_table.specs.declared.operand_rules.values.ValueType.TheVariants.{Typed}
use Rattle.type_table.specs.OperandRules.Values.{IsType}
use Rattle.initial_values.proofs.ValueEntities.ValueLemmas.{given_there}
use Rattle.initial_values.proofs.value_entities.entities.constant_entity.Goals as goal

pub returns-then-may_be_constant-clause-there : goal.returns-then-may_be_constant-clause-there
returns-then-may_be_constant-clause-there c =
    let e = c.args.tables.now.env in
    given_there e c.args.tables.now.consts c.args.x c.requires.value c.in-Some.to
    (subst (λ o. IfSome o (λ t. IsType e (Typed t))) c.in-Some.is c.requires.of) c.in-Exact.value c.in-Exact.is
    (sym c.may_be_constant.ensures ∙ c.if-may_be_constant.true)
