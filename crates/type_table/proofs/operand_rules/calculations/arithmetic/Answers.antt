use mathlib.Core.Path.{sym, ◌∙◌}
use Rattle.type_table.specs.TypeRelations.Environment.{defined_types}
use Rattle.type_table.specs.OperandRules.Values.{type_of, typed_of}
use Rattle.type_table.proofs.OperandRules.ArithmeticLemmas.{asked_left, asked_right, asked_applies, joined_left, joined_right}
use Rattle.type_table.proofs.operand_rules.calculations.arithmetic.Goals as goal

pub calculated-requires-clause-applies : goal.calculated-requires-clause-applies
calculated-requires-clause-applies c =
    let e = c.args.env.now in
    let v = typed_of e c.args.consts.now c.args.x in
    let w = typed_of e c.args.consts.now c.args.y in
    asked_applies (defined_types e) c.args.op v w (type_of e c.in-Some.t) c.in-Some-kind_of.k
    (sym c.may_calculate.ensures ∙ c.if-not-may_calculate.false)

pub calculated-requires-clause-left : goal.calculated-requires-clause-left
calculated-requires-clause-left c =
    let e = c.args.env.now in
    let v = typed_of e c.args.consts.now c.args.x in
    let w = typed_of e c.args.consts.now c.args.y in
    joined_left e c.args.consts.now c.in-Some-kind_of.k c.args.x c.args.y.of c.in-Some.t c.requires.left
    c.requires.right.of c.in-Some.ensures.good c.in-Some.ensures.common (sym c.in-Some.ensures.is)
    (sym c.kind_of.ensures ∙ c.in-Some-kind_of.is)
    (asked_left (defined_types e) c.args.op v w (type_of e c.in-Some.t) c.in-Some-kind_of.k
    (sym c.may_calculate.ensures ∙ c.if-not-may_calculate.false))

pub calculated-requires-clause-right : goal.calculated-requires-clause-right
calculated-requires-clause-right c =
    let e = c.args.env.now in
    let v = typed_of e c.args.consts.now c.args.x in
    let w = typed_of e c.args.consts.now c.args.y in
    joined_right e c.args.consts.now c.in-Some-kind_of.k c.args.x.of c.args.y c.in-Some.t c.requires.right
    c.requires.left.of c.in-Some.ensures.good c.in-Some.ensures.common (sym c.in-Some.ensures.is)
    (sym c.kind_of.ensures ∙ c.in-Some-kind_of.is)
    (asked_right (defined_types e) c.args.op v w (type_of e c.in-Some.t) c.in-Some-kind_of.k
    (sym c.may_calculate.ensures ∙ c.if-not-may_calculate.false))
