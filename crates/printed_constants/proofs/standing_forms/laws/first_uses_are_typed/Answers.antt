use Rattle.printed_constants.proofs.StandingForms.Exists.{next_there}
use Rattle.printed_constants.proofs.StandingForms.Typed.{first_typed}
use Rattle.printed_constants.proofs.standing_forms.laws.first_uses_are_typed.Goals as goal

pub returns : goal.returns
returns c = first_typed (next_there c.step_texts_are_read.ensures c.forms_of_constants_are_put.ensures.put c.forms_of_constants_are_put.ensures.named c.constants_come_next.ensures.made) c.constants_name_members.ensures c.well_typed_files_are_dotted.ensures.stand
