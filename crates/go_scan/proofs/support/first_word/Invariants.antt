use Rattle.std.proofs.Common.{◌≡◌, drop}
use Rattle.go_scan.specs.Unsupported.{first_word}
use Rattle.go_scan.proofs.support.first_word.Given as goal

abbrev pub invariant-loop-i : goal.invariant-loop-i
invariant-loop-i l = first_word l.first (drop l.i l.tokens) ≡ first_word l.fn.known l.tokens
