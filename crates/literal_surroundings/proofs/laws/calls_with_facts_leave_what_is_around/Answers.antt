use Rattle.literal_surroundings.proofs.LiteralSteps.{around_stays, there_stays}
use Rattle.literal_surroundings.proofs.laws.calls_with_facts_leave_what_is_around.Goals as goal

pub returns : goal.returns
returns c = λ x tree e here calls form facts blank p b listed once fine ps marks v at m. (
  around_stays x tree e here calls form facts blank p b listed once fine ps marks v at m,
  there_stays x tree e here calls form facts blank p b listed once fine ps marks v at m,
)
