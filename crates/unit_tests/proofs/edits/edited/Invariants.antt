use Rattle.std.proofs.Common.{length}
use Rattle.text_edits.specs.Applied.{Within}
use Rattle.unit_tests.proofs.edits.edited.Given as goal

abbrev pub invariant-loop-start : goal.invariant-loop-start
invariant-loop-start l = Within (length l.text) l.edits
