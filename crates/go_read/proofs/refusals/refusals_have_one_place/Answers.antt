use Rattle.go_read.proofs.Whole.{refused_once}
use Rattle.go_read.proofs.refusals.refusals_have_one_place.Goals as goal

-- src/refusals.rt:24:1
pub returns-clause-one : goal.returns-clause-one
returns-clause-one c = refused_once
