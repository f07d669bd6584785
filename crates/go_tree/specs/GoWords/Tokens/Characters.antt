-- Characters of Go source (Go specification, Source code representation, Tokens; the Unicode Standard,
-- General_Category).
use Rattle.std.specs.Prelude.{ℕ, ◌==◌, Bool, true, false, ◌&&◌, ◌||◌, List, [], ◌∷◌}
use Rattle.unicode.specs.GeneralCategory.{general_category}
use Rattle.unicode.specs.declared.properties.GeneralCategory.{GeneralCategory}
use Rattle.unicode.specs.declared.properties.GeneralCategory.TheVariants.{UppercaseLetter, LowercaseLetter}
use Rattle.unicode.specs.declared.properties.GeneralCategory.TheVariants.{TitlecaseLetter, ModifierLetter, OtherLetter}
use Rattle.unicode.specs.declared.properties.GeneralCategory.TheVariants.{DecimalNumber}

-- the categories Lu, Ll, Lt, Lm and Lo
abbrev pub is_letter_category : GeneralCategory → Bool
is_letter_category UppercaseLetter = true
is_letter_category LowercaseLetter = true
is_letter_category TitlecaseLetter = true
is_letter_category ModifierLetter = true
is_letter_category OtherLetter = true
is_letter_category _ = false

-- the category Nd
abbrev pub is_decimal_number : GeneralCategory → Bool
is_decimal_number DecimalNumber = true
is_decimal_number _ = false

-- `_`, or a letter of Unicode
unfoldable pub is_letter : ℕ → Bool
is_letter c = c == 95 || is_letter_category (general_category c)

-- a digit of Unicode
unfoldable pub is_digit : ℕ → Bool
is_digit c = is_decimal_number (general_category c)

-- what an identifier goes on with, and what may not follow a number
abbrev pub is_word : ℕ → Bool
is_word c = is_letter c || is_digit c

-- space, tab, carriage return and newline
abbrev pub is_blank : ℕ → Bool
is_blank c = c == 32 || c == 9 || c == 13 || c == 10

-- the byte order mark
abbrev pub byte_order_mark : ℕ
byte_order_mark = 0xFEFF

-- each character passes
abbrev pub each : (ℕ → Bool) → List ℕ → Bool
each passes [] = true
each passes (c ∷ cs) = passes c && each passes cs

-- the list has the character
abbrev pub is_listed : List ℕ → ℕ → Bool
is_listed [] c = false
is_listed (d ∷ ds) c = c == d || is_listed ds c
