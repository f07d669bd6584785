-- Spellings of string literals (Go specification, String literals).
use Rattle.std.specs.Prelude.{◌≡◌, ℕ, List, encode_utf8_all}
use Rattle.go_tree.specs.GoWords.Tokens.Forms.{HasForm}
use Rattle.go_tree.specs.GoWords.Tokens.Literals.{string_lit}

-- the bytes of a string literal
abbrev pub IsString : List ℕ → Type 0
IsString spelling = (word : List ℕ) × HasForm string_lit word × (encode_utf8_all word ≡ spelling)
