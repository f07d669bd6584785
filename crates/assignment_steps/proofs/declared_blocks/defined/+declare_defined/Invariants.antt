use Rattle.std.proofs.Common.{length}
use Rattle.assignment_steps.proofs.declared_blocks.defined.+declare_defined.Given as goal

abbrev pub decreases-declare_defined : goal.decreases-declare_defined
decreases-declare_defined l = length l.names.now
