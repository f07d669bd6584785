use Rattle.std.proofs.Common.{◌≡◌, ◌++◌, drop, map}
use Rattle.directive_scan.specs.Marked.{bad_at}
use Rattle.directive_scan.specs.Tables.{unflagged}
use Rattle.directive_scan.proofs.found.nothing_of.Given as goal

abbrev pub invariant-loop-comment : goal.invariant-loop-comment
invariant-loop-comment l = l.marks.items ++ map bad_at (unflagged l.text l.leading (drop l.comment-index l.comments)) ≡ map bad_at (unflagged l.text l.leading l.comments)
