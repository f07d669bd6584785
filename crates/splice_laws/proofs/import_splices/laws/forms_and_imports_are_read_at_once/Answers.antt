use Rattle.splice_laws.proofs.ImportSplices.FormsToo.{form_settled_go, form_settled_go_again}
use Rattle.splice_laws.proofs.import_splices.laws.forms_and_imports_are_read_at_once.Goals as goal

-- src/laws.rt
pub returns-clause-together : goal.returns-clause-together
returns-clause-together c = form_settled_go

pub returns-clause-again : goal.returns-clause-again
returns-clause-again c = form_settled_go_again
