use Rattle.alias_runs.proofs.AliasSteps.PlainAliasForms.{alias-clear, alias-means-there, alias-name-free}
use Rattle.alias_runs.proofs.alias_steps.plain_aliases_become_names.Goals as goal

pub returns-clause-form : goal.returns-clause-form
returns-clause-form c = λ same commented rs marks x u. ((alias-clear same commented rs marks x u).form_is, (alias-clear same commented rs marks x u).range_is)

pub returns-clause-free : goal.returns-clause-free
returns-clause-free c = λ same commented rs marks x u. (alias-means-there same commented rs marks x u, alias-name-free same commented rs marks x u)
