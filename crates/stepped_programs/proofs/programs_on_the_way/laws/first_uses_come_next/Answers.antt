use Rattle.stepped_programs.proofs.ProgramsOnTheWay.Uses.{stay_on, are_found, come_next}
use Rattle.stepped_programs.proofs.programs_on_the_way.laws.first_uses_come_next.Goals as goal

pub returns-clause-stay : goal.returns-clause-stay
returns-clause-stay c = stay_on c.first_uses_keep_programs.ensures.keep c.first_uses_are_steps.ensures.settled

pub returns-clause-found : goal.returns-clause-found
returns-clause-found c =
    are_found c.first_uses_keep_programs.ensures.keep c.first_uses_are_steps.ensures.settled c.first_uses_are_steps.ensures.steps c.found_uses_may_step.ensures.stand c.constant_programs_stay.ensures.first

pub returns-clause-come : goal.returns-clause-come
returns-clause-come c = come_next c.counts_come.ensures.come
