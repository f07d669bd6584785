use mathlib.Core.Path.{sym, ◌∙◌}
use Rattle.type_table.proofs.OperandRules.ShiftLemmas.{shifted_exact}
use Rattle.type_table.proofs.operand_rules.shifts.shifted.Goals as goal

pub returns-in-Some-clause-gives : goal.returns-in-Some-clause-gives
returns-in-Some-clause-gives c =
    shifted_exact c.args.env.now c.args.consts.now c.folded.new.consts c.args.op c.args.of c.args.k c.args.x c.args.n
    c.in-Some.a c.in-Some.b c.value.result.now c.value-in-Some.result.now c.binary-constant.result c.folded.result
    (sym c.both_exact.ensures ∙ c.in-Some.is) c.value.ensures c.value-in-Some.ensures c.requires.of c.requires.kind
    c.requires.op c.binary-constant.ensures c.folded.ensures.folds
