use Rattle.run_plans.proofs.InlinedPrograms.Origins.{are_logged}
use Rattle.run_plans.proofs.inlined_programs.laws.steps_are_logged.Goals as goal

pub returns : goal.returns
returns c =
    are_logged c.found_uses_may_step.ensures.stand c.found_uses_may_step.ensures.may c.constant_programs_stay.ensures.first c.first_uses_have_next.ensures c.steps_make_forms.ensures
    c.origins_are_told.ensures
