use Rattle.std.proofs.Common.{◌≡◌, drop}
use Rattle.go_tree.specs.GoWords.Texts.{digits_in}
use Rattle.go_tree.proofs.go_literals.digits.short_number.Given as goal

-- the digits from here on, after those before them, spell the number
abbrev pub invariant-loop-digit : goal.invariant-loop-digit
invariant-loop-digit l = digits_in l.base l.value (drop l.digit-index l.digits) ≡ digits_in l.base 0 l.digits
