use Rattle.module_refusals.proofs.OnceLemmas.{refusals_are_alike}
use Rattle.module_refusals.proofs.laws.one_refusal_at_most.Goals as goal

pub returns : goal.returns
returns c = refusals_are_alike c.one_fault_at_most.ensures.unique
