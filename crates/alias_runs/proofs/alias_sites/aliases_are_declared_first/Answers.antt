use Rattle.alias_runs.proofs.AliasSites.AliasFirst.{first-alias}
use Rattle.alias_runs.proofs.AliasSites.AliasMeant.{names-alias}
use Rattle.alias_runs.proofs.AliasSites.AliasUsed.{plain-names}
use Rattle.alias_runs.proofs.alias_sites.aliases_are_declared_first.Goals as goal

pub returns-clause-first : goal.returns-clause-first
returns-clause-first c = λ n p k ps f d i file decl a u at q nf nd h s. first-alias n p k ps f d i file decl a u at q nf nd h s

pub returns-clause-names : goal.returns-clause-names
returns-clause-names c = λ old new at s z home there here ps w f end x y u. names-alias ps w old new at s z home there here f end x y u

pub returns-clause-uses : goal.returns-clause-uses
returns-clause-uses c = λ same commented rs marks x u v s k ps at. plain-names same commented rs marks x u v s k ps at
