use Rattle.value_rounds.proofs.NameRounds.NamePasses.{name_step, names_end, names_start}
use Rattle.value_rounds.proofs.name_rounds.laws.names_are_found_in_passes.Goals as goal

pub returns-clause-start : goal.returns-clause-start
returns-clause-start c = λ ps w d. names_start ps w d

pub returns-clause-step : goal.returns-clause-step
returns-clause-step c = λ packages i h w x well at r set. name_step packages i h w x well at r set

pub returns-clause-end : goal.returns-clause-end
returns-clause-end c = λ ps w r l. names_end ps w r l
