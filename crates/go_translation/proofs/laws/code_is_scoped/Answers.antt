use Rattle.go_translation.proofs.ProgramScoped.{program_scoped, initial_scoped}
use Rattle.go_translation.proofs.Ranks.{program_ranked}
use Rattle.go_translation.proofs.laws.code_is_scoped.Goals as goal

-- src/laws.rt:38:1
pub returns-clause-functions : goal.returns-clause-functions
returns-clause-functions c = program_scoped

-- src/laws.rt:38:1
pub returns-clause-initial : goal.returns-clause-initial
returns-clause-initial c = initial_scoped

pub returns-clause-ranked : goal.returns-clause-ranked
returns-clause-ranked c = program_ranked
