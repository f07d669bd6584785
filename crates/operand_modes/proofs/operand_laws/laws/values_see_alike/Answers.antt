use Rattle.operand_modes.proofs.OperandLaws.ValueLemmas.{conversion_sees_alike, fitting_sees_alike, index_sees_alike, slice_sees_alike}
use Rattle.operand_modes.proofs.operand_laws.laws.values_see_alike.Goals as goal

pub returns : goal.returns
returns c =
    record {
      fits = fitting_sees_alike;
      index = index_sees_alike;
      slice = slice_sees_alike;
      conversion = conversion_sees_alike;
    }
