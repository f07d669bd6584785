use Rattle.stepped_programs.proofs.SteppedValues.Constants.{stay_marked}
use Rattle.stepped_programs.proofs.stepped_values.filled.constants_stay_marked.Goals as goal

pub returns : goal.returns
returns c = stay_marked
