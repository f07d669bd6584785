use Rattle.meaning_in_place.proofs.Runs.{run_means}
use Rattle.meaning_in_place.proofs.laws.runs_mean_the_same.Goals as goal

pub returns : goal.returns
returns z = λ free marked ps qs r. run_means free marked ps qs r
