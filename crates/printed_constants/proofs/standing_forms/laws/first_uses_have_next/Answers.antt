use Rattle.printed_constants.proofs.StandingForms.Exists.{next_there}
use Rattle.printed_constants.proofs.standing_forms.laws.first_uses_have_next.Goals as goal

pub returns : goal.returns
returns c = next_there c.step_texts_are_read.ensures c.forms_of_constants_are_put.ensures.put c.forms_of_constants_are_put.ensures.named c.constants_come_next.ensures.made
