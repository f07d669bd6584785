use Rattle.value_rounds.proofs.NameRounds.HeaderPasses.{header_step, headers_end, headers_start}
use Rattle.value_rounds.proofs.name_rounds.laws.headers_are_refused_in_passes.Goals as goal

pub returns-clause-start : goal.returns-clause-start
returns-clause-start c = λ ps w d s. headers_start ps w d s

pub returns-clause-step : goal.returns-clause-step
returns-clause-step c = λ packages i h w x at value r e set. header_step packages i h w x at value r e set

pub returns-clause-end : goal.returns-clause-end
returns-clause-end c = λ ps w r l. headers_end ps w r l
