use Rattle.run_by_steps.proofs.SpelledNames.Read.{read_names_are_identifiers, identifiers_are_named}
use Rattle.run_by_steps.proofs.spelled_names.spelled_names_are_identifiers.Goals as goal

pub returns-clause-read : goal.returns-clause-read
returns-clause-read c = read_names_are_identifiers

pub returns-clause-named : goal.returns-clause-named
returns-clause-named c = identifiers_are_named
