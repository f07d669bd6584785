use Rattle.run_rules.specs.FormTrees.{ExprForm}
use Rattle.argument_cycles.proofs.NamesThere.{names_kept}
use Rattle.argument_cycles.proofs.ArgumentCalls.{arguments_called}
use Rattle.argument_cycles.proofs.ServedNames.{served_name}
use Rattle.argument_cycles.proofs.TypesNamed.{type_none}
use Rattle.argument_cycles.proofs.QuietArguments.{unused_none}
use Rattle.argument_cycles.proofs.laws.arguments_are_put.Goals as goal

pub returns-clause-callees : goal.returns-clause-callees
returns-clause-callees c = λ commented rs marks x u k w. names_kept commented rs marks x u k w

pub returns-clause-arguments : goal.returns-clause-arguments
returns-clause-arguments c = λ commented rs marks x u t w i z q at b h. arguments_called commented rs marks x u t w i z q at b h

pub returns-clause-unused : goal.returns-clause-unused
returns-clause-unused c = λ commented rs marks x u i g q h e k at. unused_none commented rs marks x u i g q h e k at

pub returns-clause-served : goal.returns-clause-served
returns-clause-served c = λ commented rs marks x u l h p k s. served_name commented rs marks x u l h ExprForm p k s

pub returns-clause-types : goal.returns-clause-types
returns-clause-types c = λ commented rs marks x u l h z t d e f. type_none commented rs marks x u l h z t d e f
