use Rattle.put_names.proofs.WrittenNames.StepNames.{step_names, step_imports}
use Rattle.put_names.proofs.written_names.names_are_identifiers.Goals as goal

pub returns-clause-names : goal.returns-clause-names
returns-clause-names c = λ marks st l after n reads named paths few of. step_names marks st n.found n.is_first n.old n.stands reads named paths few of

pub returns-clause-imports : goal.returns-clause-imports
returns-clause-imports c = λ marks st l after n octets of names. step_imports marks st n.found n.is_first n.old n.stands octets of names
