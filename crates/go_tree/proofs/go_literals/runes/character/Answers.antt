-- The bytes of one character are a text that isn't empty.
use Rattle.std.proofs.Common.{sym, subst, arith}
use Rattle.std.specs.Prelude.{IsUtf8}
use Rattle.std.proofs.lemmas.Str.{IsUtf8-encode, length-encode, len_utf8_bounds}
use Rattle.go_tree.proofs.go_literals.runes.character.Goals as goal

pub first_of-requires : goal.first_of-requires
first_of-requires c = simp (c.in-Ok.ensures.cases.0, c.requires.encoded) (omega (arith, length-encode c.requires.code, len_utf8_bounds c.requires.code))

pub unreachable-requires : goal.unreachable-requires
unreachable-requires c = c.in-Err.ensures.cases.0 (subst IsUtf8 (sym c.requires.encoded) (IsUtf8-encode c.requires.code c.requires.scalar))
