use Rattle.std.proofs.Common.{length}
use Rattle.statement_walk.proofs.begins.+begin_defined.Given as goal

abbrev pub decreases-begin_defined : goal.decreases-begin_defined
decreases-begin_defined l = length l.names.now
