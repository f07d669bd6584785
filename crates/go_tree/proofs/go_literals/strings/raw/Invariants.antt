use Rattle.std.proofs.Common.{◌≡◌, ◌++◌, drop}
use Rattle.go_tree.specs.GoWords.Texts.{raw_value}
use Rattle.go_tree.proofs.go_literals.strings.raw.Given as goal

-- the value so far, and then that of the bytes from here on
abbrev pub invariant-loop-byte : goal.invariant-loop-byte
invariant-loop-byte l = l.value.items ++ raw_value (drop l.byte-index l.inside) ≡ raw_value l.inside
