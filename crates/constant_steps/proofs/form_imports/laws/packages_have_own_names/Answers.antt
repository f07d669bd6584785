use Rattle.constant_steps.proofs.FormImports.OwnNames.{read_packages_are_named, runs_keep_names, packages_in_use_are_named}
use Rattle.constant_steps.proofs.form_imports.laws.packages_have_own_names.Goals as goal

pub returns-clause-read : goal.returns-clause-read
returns-clause-read c = read_packages_are_named

pub returns-clause-kept : goal.returns-clause-kept
returns-clause-kept c = runs_keep_names

pub returns-clause-named : goal.returns-clause-named
returns-clause-named c = packages_in_use_are_named
