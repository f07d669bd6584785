use Rattle.std.proofs.Common.{◌≡◌, ◌+◌, drop}
use Rattle.import_edit.specs.Cursors.{comments_before}
use Rattle.import_edit.proofs.cursors.comments_before.Given as goal

abbrev pub invariant-loop-i : goal.invariant-loop-i
invariant-loop-i l = comments_before l.at l.comments ≡ l.i + comments_before l.at (drop l.i l.comments)
