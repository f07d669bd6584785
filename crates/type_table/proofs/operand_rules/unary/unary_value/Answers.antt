use mathlib.Core.Path.{sym, ◌∙◌}
use Rattle.type_table.proofs.OperandRules.UnaryLemmas.{unary_gives}
use Rattle.type_table.proofs.operand_rules.unary.unary_value.Goals as goal

pub returns-in-Exact-clause-gives : goal.returns-in-Exact-clause-gives
returns-in-Exact-clause-gives c =
    unary_gives c.args.env.now c.args.consts.now c.folded.new.consts c.args.op c.args.x c.in-Some.k c.in-Exact.c
    c.value.result.now c.unary-constant.result c.folded.result c.requires.of (sym c.kind_of.ensures ∙ c.in-Some.is)
    (sym c.unary_applies.ensures ∙ c.if-not-unary_applies.false) c.in-Exact.is c.value.ensures c.unary-constant.ensures
    c.folded.ensures.folds
