use Rattle.module_refusals.proofs.ReasonLemmas.{read_is_module, refusal_below}
use Rattle.module_refusals.proofs.reasons.first_refusal.Goals as goal

pub returns-in-Ok-clause-found : goal.returns-in-Ok-clause-found
returns-in-Ok-clause-found c = read_is_module c.args.files.now c.in-Ok.field-0 c.in-Ok.ensures.read

pub returns-clause-below : goal.returns-clause-below
returns-clause-below c = λ n all. refusal_below c.args.files.now n all c.in_ok-tell-in-Err.field-0 c.in_ok-tell-in-Err.ensures.told
