use Rattle.argument_cycles.proofs.NamesAlone.{name_inside, calls_inside}
use Rattle.argument_cycles.proofs.GivenCalled.{arguments_led}
use Rattle.argument_cycles.proofs.NamesKept.{argument_kept}
use Rattle.argument_cycles.proofs.laws.names_name_no_more_inside.Goals as goal

pub returns-clause-names : goal.returns-clause-names
returns-clause-names c = λ commented rs marks x u q v z n. name_inside commented rs marks x u q v z n

pub returns-clause-expressions : goal.returns-clause-expressions
returns-clause-expressions c = λ commented rs marks x u q v e h at b i. calls_inside commented rs marks x u q v e h at b i

pub returns-clause-arguments : goal.returns-clause-arguments
returns-clause-arguments c = λ commented rs marks x u k h. arguments_led commented rs marks x u k h

pub returns-clause-kept : goal.returns-clause-kept
returns-clause-kept c = λ commented rs marks x u k g h f. argument_kept commented rs marks x u k g h f
