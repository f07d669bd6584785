use Rattle.std.proofs.Common.{◌≡◌, ◌+◌, length, chars, IsUtf8}
use Rattle.std.specs.Str.Iter.{chars_rest}
use Rattle.go_tree.specs.GoWords.Tokens.Characters.{is_blank}
use Rattle.go_scan.specs.Sizes.{size_while}
use Rattle.go_scan.proofs.characters.blanks_size.Given as goal

-- what is left is text, and the size so far and that of what follows make up the whole
abbrev pub invariant-loop-c : goal.invariant-loop-c
invariant-loop-c l =
    (goal.iterator-loop-c).can_next l.rest × (goal.iterator-loop-c).is_finite l.rest
    × IsUtf8 (chars_rest l.rest)
    × (l.size + length (chars_rest l.rest) ≡ length l.text)
    × (l.size + size_while is_blank (chars (chars_rest l.rest)) ≡ size_while is_blank (chars l.text))
