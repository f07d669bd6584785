-- Examples of the Go specification, by computation.
use Rattle.std.proofs.Common.{◌≡◌, true, false, refl, codes}
use Rattle.go_tree.specs.GoWords.Tokens.Forms.{HasForm}
use Rattle.go_tree.specs.GoWords.Tokens.Literals.{int_lit, float_lit, imaginary_lit, rune_lit, string_lit, comment}
use Rattle.go_tree.specs.GoWords.Tokens.Pieces.{operator, operator_spellings}
use Rattle.go_scan.proofs.Derivatives.{matches, has_form}

hexadecimal : HasForm int_lit (codes "0x_67_7a_2f_cc_40_c6")
unfolding int_lit
hexadecimal = has_form int_lit (codes "0x_67_7a_2f_cc_40_c6") refl

-- no octal digit, two underscores, no digit after a prefix
no_integers : (matches int_lit (codes "08") ≡ false) × (matches int_lit (codes "4__2") ≡ false) × (matches int_lit (codes "0x") ≡ false)
unfolding int_lit
no_integers = (refl, refl, refl)

hexadecimal_float : HasForm float_lit (codes "0X_1FFFP-16")
unfolding float_lit
hexadecimal_float = has_form float_lit (codes "0X_1FFFP-16") refl

-- a hexadecimal mantissa has an exponent with `p`
no_floats : (matches float_lit (codes "0x1.8") ≡ false) × (matches float_lit (codes "1p-2") ≡ false) × (matches float_lit (codes "1_.5") ≡ false)
unfolding float_lit
no_floats = (refl, refl, refl)

decimal_imaginary : HasForm imaginary_lit (codes "0123i")
unfolding imaginary_lit int_lit float_lit
decimal_imaginary = has_form imaginary_lit (codes "0123i") refl

last_rune : HasForm rune_lit (codes "'\\U0010ffff'")
unfolding rune_lit
last_rune = has_form rune_lit (codes "'\\U0010ffff'") refl

-- a surrogate, a code point that is none, a quote of strings, two characters
no_runes : (matches rune_lit (codes "'\\uDFFF'") ≡ false) × (matches rune_lit (codes "'\\U00110000'") ≡ false) × (matches rune_lit (codes "'\\\"'") ≡ false) × (matches rune_lit (codes "'aa'") ≡ false)
unfolding rune_lit
no_runes = (refl, refl, refl, refl)

escaped_quote : HasForm string_lit (codes "\"\\\"\\xff\"")
unfolding string_lit
escaped_quote = has_form string_lit (codes "\"\\\"\\xff\"") refl

-- the first `*/` ends a comment
comment_end : (matches comment (codes "/* * / **/") ≡ true) × (matches comment (codes "/**/ */") ≡ false)
unfolding comment
comment_end = (refl, refl)

and_not : HasForm operator (codes "&^=")
unfolding operator operator_spellings
and_not = has_form operator (codes "&^=") refl
