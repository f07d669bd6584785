use Rattle.std.proofs.Common.{◌≡◌, ◌+◌, ◌<◌, length, chars, None, IsUtf8}
use Rattle.std.specs.Str.Iter.{chars_rest}
use Rattle.go_scan.specs.declared.automaton.TheConstants.{START, STATES}
use Rattle.go_scan.specs.Sizes.{longest_by_size}
use Rattle.go_scan.proofs.lexemes.longest.Given as goal

abbrev pub invariant-loop-c : goal.invariant-loop-c
invariant-loop-c l =
    (goal.iterator-loop-c).can_next l.rest × (goal.iterator-loop-c).is_finite l.rest
    × IsUtf8 (chars_rest l.rest)
    × (l.size + length (chars_rest l.rest) ≡ length l.text)
    × (l.state < STATES)
    × (longest_by_size l.state l.size l.found (chars (chars_rest l.rest)) ≡ longest_by_size START 0 None (chars l.text))
