use Rattle.std.proofs.Common.{◌∙◌, sym}
use Rattle.statement_walk.proofs.FunctionLiterals.EndLemmas.{blank_end, blank_found, blank_later}
use Rattle.statement_walk.proofs.function_literals.ends.has_blank.Goals as goal

pub returns-then-is_blank_name : goal.returns-then-is_blank_name
returns-then-is_blank_name c =
    blank_found c.args.params.now c.loop-param.param-index c.param-item.result c.loop-param-test.true c.param-item.is
    (sym c.if-is_blank_name.true ∙ c.is_blank_name.ensures) c.loop-param.invariant

pub loop-param-preserved : goal.loop-param-preserved
loop-param-preserved c =
    blank_later c.args.params.now c.loop-param.param-index c.param-item.result c.loop-param-test.true c.param-item.is
    (sym c.if-is_blank_name.false ∙ c.is_blank_name.ensures) c.loop-param.invariant

pub returns : goal.returns
returns c =
    blank_end c.args.params.now c.loop-param.param-index c.loop-param-test.false c.loop-param.invariant
