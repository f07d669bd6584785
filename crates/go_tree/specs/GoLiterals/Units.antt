-- What stands between the quotes of a rune or string literal, byte by byte (Go specification, Rune literals, String
-- literals). What a string literal stands for is `text_value` of go_words.
use Rattle.std.specs.Prelude.{◌≡◌, ℕ, ◌<◌, ◌≤◌, Bool, true, false, ◌||◌, nat_eq}
use Rattle.std.specs.Prelude.{if◌then◌else◌, List, [], ◌∷◌, length, take, drop, slice_index, chars}
use Rattle.std.specs.Prelude.{encode_utf8}
use Rattle.std.specs.Char.{IsScalar}
use Rattle.go_tree.specs.GoWords.Texts.{between_quotes, digits_in, is_octal, letter_escape}

-- ---- escapes and runes

-- how many characters an escape has that begins with this one, without its backslash
abbrev pub escape_size_by : ℕ → ℕ
escape_size_by c =
    if is_octal c then 3 else (if nat_eq c 120 then 3 else (if nat_eq c 117 then 5 else (if nat_eq c 85 then 9 else 1)))

-- how many characters an escape has, without its backslash
abbrev pub escape_size : List ℕ → ℕ
escape_size cs = escape_size_by (slice_index cs 0)

-- the number that an escape names, without its backslash
abbrev pub escape_code : List ℕ → ℕ
escape_code [] = 0
escape_code (c ∷ cs) =
    if is_octal c then digits_in 8 0 (take 3 (c ∷ cs))
    else (if nat_eq c 120 then digits_in 16 0 (take 2 cs)
    else (if nat_eq c 117 then digits_in 16 0 (take 4 cs)
    else (if nat_eq c 85 then digits_in 16 0 (take 8 cs)
    else letter_escape c)))

-- the number of the rune that stands between the quotes: of an escape, or of the character
abbrev pub rune_inside : List ℕ → ℕ
rune_inside cs = if nat_eq (slice_index cs 0) 92 then escape_code (drop 1 cs) else slice_index (chars cs) 0

-- an escape between the quotes, or one character
abbrev pub rune_value : List ℕ → ℕ
rune_value cs = rune_inside (between_quotes cs)

-- ---- what stands between the quotes of a token

-- the escape names a character, by its number; each other names a byte
abbrev pub names_character : List ℕ → Bool
names_character cs = nat_eq (slice_index cs 0) 117 || nat_eq (slice_index cs 0) 85

-- the bytes that an escape in a string stands for
abbrev pub escaped_bytes : List ℕ → List ℕ
escaped_bytes cs = if names_character cs then encode_utf8 (escape_code cs) else escape_code cs ∷ []

-- an escape comes first, without its backslash; it is whole, and names a byte or a character
pub record BeginsEscape (cs : List ℕ) : Type 0 where
  pub whole : escape_size cs ≤ length cs
  pub byte : names_character cs ≡ false → escape_code cs < 256
  pub character : names_character cs ≡ true → IsScalar (escape_code cs)

-- bytes of characters and escapes
pub data IsUnits : List ℕ → Type 0 where
  no_units : IsUnits []
  plain : (c : ℕ) (cs : List ℕ) → nat_eq c 92 ≡ false → IsUnits cs → IsUnits (c ∷ cs)
  escaped : (c : ℕ) (cs : List ℕ) → nat_eq c 92 ≡ true → BeginsEscape cs → IsUnits (drop (escape_size cs) cs) →
      IsUnits (c ∷ cs)

-- the bytes of one character
pub record IsCharacter (cs : List ℕ) : Type 0 where
  pub code : ℕ
  pub scalar : IsScalar code
  pub encoded : cs ≡ encode_utf8 code

-- what stands between the quotes of a rune: an escape, or one character
pub record IsUnit (cs : List ℕ) : Type 0 where
  pub some : 0 < length cs
  pub escape : slice_index cs 0 ≡ 92 → BeginsEscape (drop 1 cs)
  pub character : (slice_index cs 0 ≡ 92 → ⊥) → IsCharacter cs

-- a string literal: its quotes, and between double quotes characters and escapes
pub record IsText (cs : List ℕ) : Type 0 where
  pub quotes : 2 ≤ length cs
  pub units : (slice_index cs 0 ≡ 96 → ⊥) → IsUnits (between_quotes cs)
