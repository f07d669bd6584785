use Rattle.std.proofs.Common.{◌≡◌, ◌+◌, drop}
use Rattle.import_edit.specs.Cursors.{tokens_before}
use Rattle.import_edit.proofs.cursors.tokens_before.Given as goal

abbrev pub invariant-loop-i : goal.invariant-loop-i
invariant-loop-i l = tokens_before l.at l.tokens ≡ l.i + tokens_before l.at (drop l.i l.tokens)
