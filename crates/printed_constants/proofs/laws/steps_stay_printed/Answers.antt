use Rattle.printed_constants.proofs.Steps.{read_printed, stay_printed, added_printed}
use Rattle.printed_constants.proofs.laws.steps_stay_printed.Goals as goal

pub returns-clause-read : goal.returns-clause-read
returns-clause-read c = λ ps texts h. read_printed ps texts h

pub returns-clause-stay : goal.returns-clause-stay
returns-clause-stay c = λ marks st l after n e form flat all. stay_printed marks st l after n e form flat all

pub returns-clause-added : goal.returns-clause-added
returns-clause-added c = λ marks st l after n all. added_printed marks st l after n all
