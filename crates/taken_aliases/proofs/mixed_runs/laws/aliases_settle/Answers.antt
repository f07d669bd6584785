use Rattle.taken_aliases.proofs.MixedRuns.Settled.{alias-settles}
use Rattle.taken_aliases.proofs.mixed_runs.laws.aliases_settle.Goals as goal

pub returns : goal.returns
returns c = λ marks st l after n ready over. alias-settles c.programs_are_ready.ensures.scoped marks st l after n ready over
