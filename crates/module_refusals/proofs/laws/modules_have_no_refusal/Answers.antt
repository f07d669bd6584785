use Rattle.module_refusals.proofs.ModuleLemmas.{module_never_refused}
use Rattle.module_refusals.proofs.laws.modules_have_no_refusal.Goals as goal

pub returns : goal.returns
returns c = module_never_refused c.one_fault_at_most.ensures.none
