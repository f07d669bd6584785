use Rattle.order_runs.proofs.CycleLaws.ConstantCycles.OffCycles.{off-cycles}
use Rattle.order_runs.proofs.CycleLaws.ConstantCycles.UsesPut.{uses-put-alike, type-puts-alike, constant-steps-keep, alias-steps-keep}
use Rattle.order_runs.proofs.cycle_laws.constant_cycles.laws.constants_keep_cycles.Goals as goal

pub returns-clause-off : goal.returns-clause-off
returns-clause-off c = λ ps marks m off. off-cycles ps marks m off

pub returns-clause-alike : goal.returns-clause-alike
returns-clause-alike c = λ marks ps x e u n. uses-put-alike marks ps x e u n

pub returns-clause-types : goal.returns-clause-types
returns-clause-types c = λ marks ps x t u n. type-puts-alike marks ps x t u n

pub returns-clause-kept : goal.returns-clause-kept
returns-clause-kept c = λ marks st l after n e f off u k r x. constant-steps-keep marks st l after n e f off u k r x

pub returns-clause-aliases : goal.returns-clause-aliases
returns-clause-aliases c = λ marks st l after n t f off u k r x. alias-steps-keep marks st l after n t f off u k r x
