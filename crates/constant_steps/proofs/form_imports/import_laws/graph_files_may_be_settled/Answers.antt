use Rattle.constant_steps.proofs.FormImports.ImportLaws.GraphImports.{files_may_settle, imports_mean_alike, names_mean_afterwards}
use Rattle.constant_steps.proofs.form_imports.import_laws.graph_files_may_be_settled.Goals as goal

pub returns-clause-told : goal.returns-clause-told
returns-clause-told c = files_may_settle

pub returns-clause-alike : goal.returns-clause-alike
returns-clause-alike c = imports_mean_alike

pub returns-clause-mean : goal.returns-clause-mean
returns-clause-mean c = names_mean_afterwards
