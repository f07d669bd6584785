use Rattle.argument_cycles.proofs.FoundThere.Becoming.{stands_there, becomes_the_same}
use Rattle.argument_cycles.proofs.FoundThere.NamedThere.{names-stay}
use Rattle.argument_cycles.proofs.found_there.laws.added_imports_keep_forms.Goals as goal

pub returns-clause-stands : goal.returns-clause-stands
returns-clause-stands c = λ marks st l after n h s u. stands_there marks st l after n h s u

pub returns-clause-names : goal.returns-clause-names
returns-clause-names c = λ marks st l after n h s own u. names-stay marks st l after n h s own u

pub returns-clause-forms : goal.returns-clause-forms
returns-clause-forms c = λ marks st l after n h s own u t. becomes_the_same marks st l after n h s own u t
