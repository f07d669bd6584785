-- Spellings of literals (Go specification, Integer literals, Rune literals, String literals).
use Rattle.std.specs.Prelude.{◌≡◌, ℕ, Bool, true, false, ◌⊎◌, List, All, encode_utf8_all}
use Rattle.std.specs.Str.{all_scalars}
use Rattle.go_tree.specs.declared.tokens.Token.{Token}
use Rattle.go_tree.specs.declared.tokens.Comment.{Comment}
use Rattle.go_tree.specs.declared.tokens.TokenKind.{TokenKind}
use Rattle.go_tree.specs.declared.tokens.TokenKind.TheVariants.{Integer, Rune, Str}
use Rattle.go_tree.specs.GoWords.Tokens.{TokensOf}
use Rattle.go_tree.specs.GoWords.Tokens.Forms.{HasForm}
use Rattle.go_tree.specs.GoWords.Tokens.Literals.{int_lit, rune_lit, string_lit}
use Rattle.go_tree.specs.GoLiterals.Strings.{IsString}

-- The spelling is that of an integer, rune or string literal token.
pub record IsLiteral (spelling : List ℕ) : Type 0 where
  pub word : List ℕ
  pub scalars : all_scalars word ≡ true
  pub encoded : encode_utf8_all word ≡ spelling
  pub form : HasForm int_lit word ⊎ (HasForm rune_lit word ⊎ HasForm string_lit word)

-- The spelling is that of a rune literal.
pub record IsRune (spelling : List ℕ) : Type 0 where
  pub word : List ℕ
  pub scalars : all_scalars word ≡ true
  pub encoded : encode_utf8_all word ≡ spelling
  pub form : HasForm rune_lit word

-- a token that stands for a constant
abbrev pub is_literal : TokenKind → Bool
is_literal Integer = true
is_literal Rune = true
is_literal Str = true
is_literal _ = false

-- each integer, rune and string token of a text has the form of its literal
abbrev pub TokensAreLiterals : Type 0
TokensAreLiterals = (text : List ℕ) (tokens : List Token) (comments : List Comment) → TokensOf text tokens comments
    → All (λ t. is_literal t.kind ≡ true → IsLiteral t.spelling) tokens

-- each string token of a text has the form of a string literal
abbrev pub TokensAreStrings : Type 0
TokensAreStrings = (text : List ℕ) (tokens : List Token) (comments : List Comment) → TokensOf text tokens comments
    → All (λ t. t.kind ≡ Str → IsString t.spelling) tokens
