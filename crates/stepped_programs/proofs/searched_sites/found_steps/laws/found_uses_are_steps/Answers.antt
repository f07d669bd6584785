use Rattle.stepped_programs.proofs.SearchedSites.FoundSteps.Told.{are_steps, are_made, come_next}
use Rattle.stepped_programs.proofs.searched_sites.found_steps.laws.found_uses_are_steps.Goals as goal

pub returns-clause-step : goal.returns-clause-step
returns-clause-step c =
    are_steps c.values_are_names.ensures c.forms_of_constants_are_put.ensures.some c.constant_uses_stand_alone.ensures c.first_uses_are_told.ensures
    c.slots_take_names.ensures.found

pub returns-clause-made : goal.returns-clause-made
returns-clause-made c = are_made c.values_are_names.ensures c.forms_of_constants_are_put.ensures.some c.steps_may_be_edited.ensures

pub returns-clause-next : goal.returns-clause-next
returns-clause-next c = come_next c.values_are_names.ensures c.constants_come_next.ensures.next
