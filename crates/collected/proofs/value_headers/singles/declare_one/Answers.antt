use Rattle.std.proofs.Common.{[], ◌∷◌}
use Rattle.std.specs.Option.{option_map}
use Rattle.go_tree.specs.Tree.{expr_and, no_exprs}
use Rattle.go_tree.specs.View.{expr_of, name_at_of, type_of}
use Rattle.initial_values.specs.ValueEntities.Entities.{one_found}
use Rattle.collected.specs.SingleHeaders.Singles.{named_by}
use Rattle.collected.proofs.ValueHeaders.HeaderLemmas.{in_any_case, there_answered, values_answered}
use Rattle.collected.proofs.ValueHeaders.ValueLemmas.{one_named}
use Rattle.collected.proofs.value_headers.singles.declare_one.Goals as goal

pub returns-clause-ready : goal.returns-clause-ready
returns-clause-ready c = in_any_case c.declare_name.result c.own_value-found.ensures.ready

pub returns-clause-keeps : goal.returns-clause-keeps
returns-clause-keeps c = in_any_case c.declare_name.result c.own_value-found.ensures.keeps

pub returns-clause-there : goal.returns-clause-there
returns-clause-there c =
    there_answered c.args.tables.now c.own_value-found.new.tables c.args.blocks.now c.declare_name.new.blocks
    c.args.file.now
    (named_by (name_at_of c.args.name.now ∷ []) (option_map type_of c.args.of.now)
    (expr_and (expr_of c.args.value.now) no_exprs) c.args.number)
    c.own_value-found.ensures.keeps c.requires.ready c.requires.there (one_found c.own_value-found.result)
    c.declare_name.result c.own_value-found.ensures.ready c.own_value-found.ensures.gives c.declare_name.ensures.there

pub returns-clause-set : goal.returns-clause-set
returns-clause-set c =
    let n = name_at_of c.args.name.now in
    let t = option_map type_of c.args.of.now in
    let es = expr_and (expr_of c.args.value.now) no_exprs in
    values_answered c.args.tables.now c.own_value-found.new.tables c.args.blocks.now c.declare_name.new.blocks
    c.args.file.now (named_by (n ∷ []) t es c.args.number)
    c.own_value-found.ensures.keeps c.requires.ready c.requires.there (one_found c.own_value-found.result)
    (n.name ∷ []) c.declare_name.result c.own_value-found.ensures.gives (one_named n t es c.args.number)
    c.declare_name.ensures.set
