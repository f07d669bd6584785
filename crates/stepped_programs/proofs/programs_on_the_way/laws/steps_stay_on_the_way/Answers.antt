use Rattle.stepped_programs.proofs.ProgramsOnTheWay.Steps.{stay_on, blocks_stay_on}
use Rattle.stepped_programs.proofs.programs_on_the_way.laws.steps_stay_on_the_way.Goals as goal

pub returns-clause-stay : goal.returns-clause-stay
returns-clause-stay c =
    stay_on c.found_uses_may_step.ensures.stand c.typed_files_are_searchable.ensures c.tables_serve_programs.ensures c.right_tables_stay.ensures.worlds c.constant_programs_stay.ensures.worlds c.constant_programs_stay.ensures.over c.constant_programs_stay.ensures.kept
    c.printed_steps_avoid_few_names.ensures.total c.origins_are_swapped.ensures.found c.progress_follows_steps.ensures.next c.steps_are_counted.ensures.step c.steps_keep_programs.ensures.keep
    c.steps_keep_settled.ensures.settled

pub returns-clause-blocks : goal.returns-clause-blocks
returns-clause-blocks c =
    blocks_stay_on c.found_uses_may_step.ensures.stand c.printed_steps_avoid_few_names.ensures.total
    c.origins_are_swapped.ensures.found c.progress_follows_steps.ensures.next
