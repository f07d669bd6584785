use Rattle.printed_constants.proofs.StandingForms.Typed.{no_import}
use Rattle.printed_constants.proofs.standing_forms.laws.forms_name_no_import.Goals as goal

pub returns : goal.returns
returns c = no_import c.constants_name_members.ensures
