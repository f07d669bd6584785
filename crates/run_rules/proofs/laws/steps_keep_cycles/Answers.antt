use Rattle.run_rules.proofs.CyclesFound.{recursive_is, cycles_kept}
use Rattle.run_rules.proofs.laws.steps_keep_cycles.Goals as goal

pub returns-clause-found : goal.returns-clause-found
returns-clause-found c = λ ps marks m. recursive_is ps marks m

pub returns-clause-kept : goal.returns-clause-kept
returns-clause-kept c = λ before after marks m. cycles_kept before after marks m
