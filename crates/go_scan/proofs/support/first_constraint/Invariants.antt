use Rattle.std.proofs.Common.{◌≡◌, None, drop}
use Rattle.go_scan.specs.Unsupported.{first_constraint}
use Rattle.go_scan.proofs.support.first_constraint.Given as goal

abbrev pub invariant-loop-comment : goal.invariant-loop-comment
invariant-loop-comment l = first_constraint l.text l.place l.first (drop l.comment-index l.comments) ≡ first_constraint l.text l.place None l.comments
