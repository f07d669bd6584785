use Rattle.std.proofs.Common.{◌∙◌, map, sym}
use Rattle.std.specs.Option.{option_map}
use Rattle.go_tree.specs.View.{exprs_of, name_at_of, type_of}
use Rattle.operator_rules.specs.Settling.{typed_option}
use Rattle.initial_values.proofs.WalkedLemmas.{all_walked}
use Rattle.initial_values.proofs.ValueEntities.SpecLemmas.{constants_typed}
use Rattle.initial_values.proofs.value_entities.specs.spec_constants.Goals as goal

pub values_at-requires-clause-walked : goal.values_at-requires-clause-walked
values_at-requires-clause-walked c =
    all_walked (exprs_of c.args.spec.now.values) (sym c.all_bodiless.ensures ∙ c.if-not-all_bodiless.false)
    c.requires.spelled

pub returns-in-Ok-clause-gives : goal.returns-in-Ok-clause-gives
returns-in-Ok-clause-gives c =
    let m = c.written_type.new.tables in
    let spec = c.args.spec.now in
    constants_typed c.args.tables.now c.args.blocks.now c.args.scope.now (map name_at_of c.args.names.now)
    (option_map type_of spec.of) (exprs_of spec.values) m c.written_type.ensures.keeps c.requires.stands
    c.values_at.new.tables c.values_at.result (typed_option m.env c.in-Ok.t)
    (sym c.all_bodiless.ensures ∙ c.if-not-all_bodiless.false) c.in-Ok.ensures.gives.1 c.values_at.ensures.gives
