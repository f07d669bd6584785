use Rattle.run_plans.proofs.InlinedPrograms.MayTake.{may_take}
use Rattle.run_plans.proofs.inlined_programs.laws.steps_may_be_taken.Goals as goal

pub returns : goal.returns
returns c =
    may_take c.steps_are_logged.ensures c.first_uses_come_next.ensures.stay c.first_uses_come_next.ensures.found c.first_uses_come_next.ensures.come c.kept_rows_tell.ensures.may
    c.found_uses_may_step.ensures.stand c.found_uses_may_step.ensures.may c.use_steps_go_on.ensures.file c.use_steps_go_on.ensures.never c.steps_may_be_put.ensures c.constant_programs_stay.ensures.kept
    c.printed_steps_avoid_few_names.ensures.total c.progress_follows_steps.ensures.next c.counts_come.ensures.texts c.steps_are_counted.ensures.within
