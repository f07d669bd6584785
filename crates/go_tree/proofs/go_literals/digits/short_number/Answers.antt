-- No number so far is greater than the whole.
use Rattle.std.proofs.Common.{◌+◌, ◌*◌, drop, get_or, arith}
use Rattle.go_tree.specs.GoWords.Texts.{hex_digit}
use Rattle.go_tree.proofs.GoLiterals.DigitLemmas.{digits_grow, next_digit}
use Rattle.go_tree.proofs.go_literals.digits.short_number.Goals as goal

pub overflow_mul-value : goal.overflow_mul-value
overflow_mul-value c =
    let e = next_digit c.args.base c.loop-digit.value c.args.digits.now c.loop-digit.digit-index c.loop-digit-test.true in
    let g = digits_grow c.args.base (c.loop-digit.value * c.args.base + hex_digit (get_or c.args.digits.now c.loop-digit.digit-index 0)) (drop (c.loop-digit.digit-index + 1) c.args.digits.now) c.requires.base in
    omega (arith, e, g)

pub overflow_add-value : goal.overflow_add-value
overflow_add-value c =
    let e = next_digit c.args.base c.loop-digit.value c.args.digits.now c.loop-digit.digit-index c.loop-digit-test.true in
    let g = digits_grow c.args.base (c.loop-digit.value * c.args.base + hex_digit (get_or c.args.digits.now c.loop-digit.digit-index 0)) (drop (c.loop-digit.digit-index + 1) c.args.digits.now) c.requires.base in
    omega (arith, e, g)
