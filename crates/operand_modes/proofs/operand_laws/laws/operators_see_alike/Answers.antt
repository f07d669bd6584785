use Rattle.operand_modes.proofs.OperandLaws.OperatorLemmas.{binary_sees_alike, unary_sees_alike}
use Rattle.operand_modes.proofs.OperandLaws.GivenLemmas.{answers_given}
use Rattle.operand_modes.proofs.operand_laws.laws.operators_see_alike.Goals as goal

pub returns : goal.returns
returns c = record { binary = binary_sees_alike; unary = unary_sees_alike; given = answers_given }
