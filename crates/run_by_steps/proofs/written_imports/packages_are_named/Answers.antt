use Rattle.run_by_steps.proofs.WrittenImports.ReadNames.{read_packages_are_named, runs_keep_packages_named}
use Rattle.run_by_steps.proofs.written_imports.packages_are_named.Goals as goal

pub returns-clause-read : goal.returns-clause-read
returns-clause-read c = read_packages_are_named

pub returns-clause-kept : goal.returns-clause-kept
returns-clause-kept c = runs_keep_packages_named
