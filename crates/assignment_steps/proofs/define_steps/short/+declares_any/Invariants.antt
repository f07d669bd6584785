use Rattle.std.proofs.Common.{length}
use Rattle.assignment_steps.proofs.define_steps.short.+declares_any.Given as goal

abbrev pub decreases-declares_any : goal.decreases-declares_any
decreases-declares_any l = length l.names.now
