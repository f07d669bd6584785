use Rattle.run_plans.proofs.InlinedPrograms.NextSteps.{come_next, keep_blocks, limits_stop, runs_are_over}
use Rattle.run_plans.proofs.inlined_programs.laws.taken_steps_come_next.Goals as goal

pub returns-clause-next : goal.returns-clause-next
returns-clause-next c =
    come_next c.steps_are_logged.ensures c.first_uses_come_next.ensures.stay c.first_uses_come_next.ensures.found c.first_uses_come_next.ensures.come c.use_steps_go_on.ensures.file
    c.steps_stay_on_the_way.ensures.stay c.rows_tell.ensures.step

pub returns-clause-blocks : goal.returns-clause-blocks
returns-clause-blocks c =
    keep_blocks c.steps_are_logged.ensures c.first_uses_come_next.ensures.stay c.first_uses_come_next.ensures.found c.first_uses_come_next.ensures.come c.use_steps_go_on.ensures.file
    c.steps_stay_on_the_way.ensures.blocks

pub returns-clause-limit : goal.returns-clause-limit
returns-clause-limit c =
    limits_stop c.steps_are_logged.ensures c.first_uses_come_next.ensures.stay c.first_uses_come_next.ensures.found c.first_uses_come_next.ensures.come c.found_uses_may_step.ensures.stand
    c.found_uses_are_steps.ensures.step c.constant_programs_stay.ensures.first c.first_uses_have_next.ensures c.progress_follows_steps.ensures.next

pub returns-clause-end : goal.returns-clause-end
returns-clause-end c = runs_are_over c.first_uses_come_next.ensures.stay c.first_uses_are_steps.ensures.steps c.runs_end.ensures
