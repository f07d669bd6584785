-- Literals (Go specification, Integer literals, Floating-point literals, Imaginary literals, Rune literals, String
-- literals).
use Rattle.std.specs.Prelude.{ℕ, List, [], ◌∷◌, ◌++◌, codes}
use Rattle.go_tree.specs.GoWords.Tokens.Characters.{byte_order_mark}
use Rattle.go_tree.specs.GoWords.Tokens.Forms.{Form, one_of, other_than, many, in_turn, any_of, maybe}

-- ---- numbers

-- "_"
abbrev pub underscore : Form
underscore = one_of (codes "_")

-- decimal_digit = "0" … "9"
abbrev pub decimal_digit : Form
decimal_digit = one_of (codes "0123456789")

-- binary_digit = "0" | "1"
abbrev pub binary_digit : Form
binary_digit = one_of (codes "01")

-- octal_digit = "0" … "7"
abbrev pub octal_digit : Form
octal_digit = one_of (codes "01234567")

-- hex_digit = "0" … "9" | "A" … "F" | "a" … "f"
abbrev pub hex_digit : Form
hex_digit = one_of (codes "0123456789ABCDEFabcdef")

-- such digits, and between two of them at most one `_`
abbrev pub digits_of : Form → Form
digits_of digit = in_turn (digit ∷ many (in_turn (maybe underscore ∷ digit ∷ [])) ∷ [])

-- `0`, one of the letters, and the rest
abbrev pub zero_with : List ℕ → Form → Form
zero_with letters rest = in_turn (one_of (codes "0") ∷ one_of letters ∷ rest ∷ [])

-- `0`, or a digit 1 to 9 and then digits
abbrev pub decimal_lit : Form
decimal_lit =
    any_of (one_of (codes "0")
    ∷ in_turn (one_of (codes "123456789") ∷ maybe (in_turn (maybe underscore ∷ digits_of decimal_digit ∷ [])) ∷ [])
    ∷ [])

-- binary_lit = "0" ( "b" | "B" ) [ "_" ] binary_digits
abbrev pub binary_lit : Form
binary_lit = zero_with (codes "bB") (in_turn (maybe underscore ∷ digits_of binary_digit ∷ []))

-- octal_lit = "0" [ "o" | "O" ] [ "_" ] octal_digits
abbrev pub octal_lit : Form
octal_lit = in_turn (one_of (codes "0") ∷ maybe (one_of (codes "oO")) ∷ maybe underscore ∷ digits_of octal_digit ∷ [])

-- hex_lit = "0" ( "x" | "X" ) [ "_" ] hex_digits
abbrev pub hex_lit : Form
hex_lit = zero_with (codes "xX") (in_turn (maybe underscore ∷ digits_of hex_digit ∷ []))

-- int_lit = decimal_lit | binary_lit | octal_lit | hex_lit
unfoldable pub int_lit : Form
int_lit = any_of (decimal_lit ∷ binary_lit ∷ octal_lit ∷ hex_lit ∷ [])

-- the point of a floating-point literal
abbrev pub point : Form
point = one_of (codes ".")

-- the letter, a sign or none, and decimal digits
abbrev pub exponent_after : List ℕ → Form
exponent_after letters = in_turn (one_of letters ∷ maybe (one_of (codes "+-")) ∷ digits_of decimal_digit ∷ [])

-- decimal digits with a point or an exponent, or with both
abbrev pub decimal_float_lit : Form
decimal_float_lit = let digits = digits_of decimal_digit in let exponent = exponent_after (codes "eE") in
    any_of (in_turn (digits ∷ point ∷ maybe digits ∷ maybe exponent ∷ []) ∷ in_turn (digits ∷ exponent ∷ [])
    ∷ in_turn (point ∷ digits ∷ maybe exponent ∷ []) ∷ [])

-- hexadecimal digits with a point among, before or behind them, or without one
abbrev pub hex_mantissa : Form
hex_mantissa = let digits = digits_of hex_digit in
    any_of (in_turn (maybe underscore ∷ digits ∷ point ∷ maybe digits ∷ []) ∷ in_turn (maybe underscore ∷ digits ∷ [])
    ∷ in_turn (point ∷ digits ∷ []) ∷ [])

-- hex_float_lit = "0" ( "x" | "X" ) hex_mantissa hex_exponent
abbrev pub hex_float_lit : Form
hex_float_lit = zero_with (codes "xX") (in_turn (hex_mantissa ∷ exponent_after (codes "pP") ∷ []))

-- float_lit = decimal_float_lit | hex_float_lit
unfoldable pub float_lit : Form
float_lit = any_of (decimal_float_lit ∷ hex_float_lit ∷ [])

-- imaginary_lit = ( decimal_digits | int_lit | float_lit ) "i"
unfoldable pub imaginary_lit : Form
unfolding int_lit float_lit
imaginary_lit = in_turn (any_of (digits_of decimal_digit ∷ int_lit ∷ float_lit ∷ []) ∷ one_of (codes "i") ∷ [])

-- ---- runes and strings

-- one character of the text other than these; U+0000 and the byte order mark stand in no token
abbrev pub character_but : List ℕ → Form
character_but cs = other_than (0 ∷ byte_order_mark ∷ cs)

-- four hexadecimal digits that name no surrogate, the code points 0xD800 to 0xDFFF
abbrev pub four_digits : Form
four_digits = any_of (
    in_turn (one_of (codes "0123456789ABCEFabcef") ∷ hex_digit ∷ hex_digit ∷ hex_digit ∷ [])
    ∷ in_turn (one_of (codes "Dd") ∷ one_of (codes "01234567") ∷ hex_digit ∷ hex_digit ∷ [])
    ∷ [])

-- eight hexadecimal digits that name no surrogate and nothing over 10FFFF
abbrev pub eight_digits : Form
eight_digits =
    let nought = one_of (codes "0") in let hex_digits = in_turn (hex_digit ∷ hex_digit ∷ hex_digit ∷ hex_digit ∷ []) in
    any_of (
    in_turn (nought ∷ nought ∷ nought ∷ nought ∷ four_digits ∷ [])
    ∷ in_turn (nought ∷ nought ∷ nought ∷ one_of (codes "123456789ABCDEFabcdef") ∷ hex_digits ∷ [])
    ∷ in_turn (nought ∷ nought ∷ one_of (codes "1") ∷ nought ∷ hex_digits ∷ [])
    ∷ [])

-- an escape between such quotes; three octal digits are at most 255
abbrev pub escape_within : List ℕ → Form
escape_within quotes = in_turn (one_of (codes "\\") ∷ any_of (
    one_of (codes "abfnrtv\\" ++ quotes)
    ∷ in_turn (one_of (codes "0123") ∷ octal_digit ∷ octal_digit ∷ [])
    ∷ in_turn (one_of (codes "x") ∷ hex_digit ∷ hex_digit ∷ [])
    ∷ in_turn (one_of (codes "u") ∷ four_digits ∷ [])
    ∷ in_turn (one_of (codes "U") ∷ eight_digits ∷ [])
    ∷ []) ∷ [])

-- one character other than newline, the quote and `\`, or an escape
abbrev pub unit_within : List ℕ → Form
unit_within quotes = any_of (character_but (codes "\n\\" ++ quotes) ∷ escape_within quotes ∷ [])

-- one character or escape between single quotes
unfoldable pub rune_lit : Form
rune_lit = in_turn (one_of (codes "'") ∷ unit_within (codes "'") ∷ one_of (codes "'") ∷ [])

-- characters and escapes between double quotes
abbrev pub interpreted_string : Form
interpreted_string = in_turn (one_of (codes "\"") ∷ many (unit_within (codes "\"")) ∷ one_of (codes "\"") ∷ [])

-- characters between backquotes
abbrev pub raw_string : Form
raw_string = in_turn (one_of (codes "`") ∷ many (character_but (codes "`")) ∷ one_of (codes "`") ∷ [])

-- string_lit = raw_string_lit | interpreted_string_lit
unfoldable pub string_lit : Form
string_lit = any_of (interpreted_string ∷ raw_string ∷ [])

-- ---- comments (Go specification, Comments)

-- from `//` to before the newline
abbrev pub line_comment : Form
line_comment = in_turn (one_of (codes "/") ∷ one_of (codes "/") ∷ many (character_but (codes "\n")) ∷ [])

-- from `/*` to the first `*/`: each run of stars but the last is followed by no slash
abbrev pub general_comment : Form
general_comment = let star = one_of (codes "*") in let stars = in_turn (star ∷ many star ∷ []) in
    in_turn (one_of (codes "/") ∷ star
    ∷ many (any_of (character_but (codes "*") ∷ in_turn (stars ∷ character_but (codes "*/") ∷ []) ∷ []))
    ∷ stars ∷ one_of (codes "/") ∷ [])

-- a line comment or a general one
unfoldable pub comment : Form
comment = any_of (line_comment ∷ general_comment ∷ [])
