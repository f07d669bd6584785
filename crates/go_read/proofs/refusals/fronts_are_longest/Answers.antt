use Rattle.go_read.proofs.Whole.{one_longest}
use Rattle.go_read.proofs.refusals.fronts_are_longest.Goals as goal

-- src/refusals.rt:15:1
pub returns-clause-one : goal.returns-clause-one
returns-clause-one c = one_longest
