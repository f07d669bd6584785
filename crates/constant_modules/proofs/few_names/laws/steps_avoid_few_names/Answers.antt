use Rattle.constant_modules.proofs.FewNames.Few.{few-taken}
use Rattle.constant_modules.proofs.FewNames.Words.{identifiers-are-tokens}
use Rattle.constant_modules.proofs.few_names.laws.steps_avoid_few_names.Goals as goal

pub returns-clause-tokens : goal.returns-clause-tokens
returns-clause-tokens c = λ tokens f d. identifiers-are-tokens tokens f d

pub returns-clause-few : goal.returns-clause-few
returns-clause-few c = λ marks st l after n e part reads paths named small. few-taken marks st l after n e part reads paths named small
