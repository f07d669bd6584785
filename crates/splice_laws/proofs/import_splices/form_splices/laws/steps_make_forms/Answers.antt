use Rattle.splice_laws.proofs.ImportSplices.FormSplices.FormsFound.{step-makes-form}
use Rattle.splice_laws.proofs.import_splices.form_splices.laws.steps_make_forms.Goals as goal

pub returns : goal.returns
returns c = λ marks st l after n. step-makes-form marks st l after n
