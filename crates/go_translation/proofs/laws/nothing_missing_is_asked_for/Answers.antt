use Rattle.go_translation.proofs.ProgramAsking.{nothing_missing}
use Rattle.go_translation.proofs.laws.nothing_missing_is_asked_for.Goals as goal

-- src/laws.rt:58:1
pub returns : goal.returns
returns c = record { declared = nothing_missing }
