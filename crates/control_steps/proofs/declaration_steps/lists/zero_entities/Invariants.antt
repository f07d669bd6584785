use Rattle.control_steps.proofs.DeclarationSteps.BindLemmas.{SoMany}
use Rattle.control_steps.proofs.declaration_steps.lists.zero_entities.Given as goal

abbrev pub invariant-loop-added : goal.invariant-loop-added
invariant-loop-added l = SoMany l.t l._added l.entities.items
