use Rattle.constant_steps.proofs.FormImports.ImportLaws.StepImports.{removed_are_unused}
use Rattle.constant_steps.proofs.FormImports.ImportLaws.NamesNeeded.{step_names_mean}
use Rattle.constant_steps.proofs.form_imports.import_laws.steps_settle_imports.Goals as goal

pub returns-clause-removed : goal.returns-clause-removed
returns-clause-removed c = removed_are_unused

pub returns-clause-mean : goal.returns-clause-mean
returns-clause-mean c = step_names_mean
