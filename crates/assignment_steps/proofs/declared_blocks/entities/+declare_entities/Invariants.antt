use Rattle.std.proofs.Common.{length}
use Rattle.assignment_steps.proofs.declared_blocks.entities.+declare_entities.Given as goal

abbrev pub decreases-declare_entities : goal.decreases-declare_entities
decreases-declare_entities l = length l.names.now
