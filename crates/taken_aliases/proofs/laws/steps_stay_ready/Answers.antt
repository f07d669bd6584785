use Rattle.taken_aliases.proofs.Runs.{ready-next}
use Rattle.taken_aliases.proofs.laws.steps_stay_ready.Goals as goal

pub returns : goal.returns
returns c = λ marks st l after n ready typed settles takes. ready-next marks st l after n c.constants_keep_cycles.ensures.ready ready typed settles takes
