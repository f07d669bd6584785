use Rattle.std.proofs.Common.{arith}
use Rattle.operand_modes.specs.Operands.{tuple_at}
use Rattle.operand_modes.proofs.SpreadLemmas.{several_results}
use Rattle.operand_modes.proofs.spreads.spread_values.Goals as goal

pub returns-in-Ok : goal.returns-in-Ok
returns-in-Ok c =
    λ cs.
    several_results c.args.env.now cs c.tuple_parts-parts.result.now (tuple_at c.args.env.now c.args.results)
    c.in-Ok.values c.tuple_parts-parts.ensures.are (omega arith) c.tuple_parts-parts.ensures.typed c.in-Ok.ensures
