use Rattle.printed_constants.proofs.FormNames.Forms.{form_not_blank}
use Rattle.printed_constants.proofs.form_names.laws.forms_name_no_blank.Goals as goal

pub returns : goal.returns
returns c = λ marks st l after n own few of k. form_not_blank marks st l after n own few of k
