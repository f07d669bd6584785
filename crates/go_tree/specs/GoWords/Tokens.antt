-- The tokens and comments of a text (Go specification, Source code representation, Tokens, Semicolons).
pub mod Characters
pub mod Forms
pub mod Literals
pub mod Pieces
use Rattle.std.specs.Prelude.{◌≡◌, ◌≢◌, ℕ, ◌+◌, ◌==◌, Bool, true, false, ◌||◌, List, []}
use Rattle.std.specs.Prelude.{◌∷◌, ◌++◌, length, Option, Some, None, codes, bytes_eq, encode_utf8_all}
use Rattle.std.specs.Prelude.{if◌then◌else◌}
use Rattle.std.specs.Str.{all_scalars}
use Rattle.go_tree.specs.declared.spans.Span.{Span}
use Rattle.go_tree.specs.declared.tokens.Token.{Token}
use Rattle.go_tree.specs.declared.tokens.Comment.{Comment}
use Rattle.go_tree.specs.declared.tokens.TokenKind.{TokenKind}
use Rattle.go_tree.specs.declared.tokens.TokenKind.TheVariants.{Keyword, Operator, Inserted}
use Rattle.go_tree.specs.GoWords.Terminals.{fallthrough, terminal_of, ends_statement}
use Rattle.go_tree.specs.GoWords.Tokens.Characters.{byte_order_mark, is_listed}
use Rattle.go_tree.specs.GoWords.Tokens.Pieces.{PieceKind, remark, token, Piece, IsNext, CutsTo}

-- how many bytes the characters have
abbrev pub size_of : List ℕ → ℕ
size_of characters = length (encode_utf8_all characters)

-- a newline after such a token gives a semicolon (Go specification, Semicolons)
abbrev pub ends_line : TokenKind → List ℕ → Bool
ends_line Keyword word = ends_statement (terminal_of Keyword word) || bytes_eq word fallthrough
ends_line Operator word = ends_statement (terminal_of Operator word)
ends_line Inserted word = false
ends_line _ word = true

-- the semicolon that is due at this place, where one is
abbrev pub inserted : Option ℕ → List Token
inserted None = []
inserted (Some at) = record { span = record { start = at; end = at }; kind = Inserted; spelling = codes ";" } ∷ []

-- the span of a word that begins at a byte
abbrev pub span_of : ℕ → List ℕ → Span
span_of at word = record { start = at; end = at + size_of word }

-- Each piece has the byte at which it begins. `due` is the end of the last token, where a newline or the end of the
-- text gives a semicolon after it.
abbrev pub tokens_at : ℕ → Option ℕ → PieceKind → List ℕ → List Token
tokens_at at due (token k) word = record { span = span_of at word; kind = k; spelling = encode_utf8_all word } ∷ []
tokens_at at due _ word = if is_listed word 10 then inserted due else []

-- where a semicolon is due after a piece: at the end of a token that ends a line, until the newline has passed
abbrev pub due_after : ℕ → Option ℕ → PieceKind → List ℕ → Option ℕ
due_after at due (token k) word = if ends_line k word then Some (at + size_of word) else None
due_after at due _ word = if is_listed word 10 then None else due

-- the tokens of pieces from a byte on, with the semicolons that are inserted
unfoldable pub tokens_from : ℕ → Option ℕ → List Piece → List Token
tokens_from at due [] = inserted due
tokens_from at due (p ∷ ps) =
    tokens_at at due p.kind p.word ++ tokens_from (at + size_of p.word) (due_after at due p.kind p.word) ps

-- the comment that a piece is, if it is one
abbrev pub comments_at : ℕ → PieceKind → List ℕ → List Comment
comments_at at remark word = record { span = span_of at word } ∷ []
comments_at at _ word = []

-- the comments among pieces from a byte on
unfoldable pub comments_from : ℕ → List Piece → List Comment
comments_from at [] = []
comments_from at (p ∷ ps) = comments_at at p.kind p.word ++ comments_from (at + size_of p.word) ps

-- the characters of the text after a byte order mark at its start
abbrev pub after_mark : List ℕ → List ℕ
after_mark [] = []
after_mark (c ∷ cs) = if c == byte_order_mark then cs else c ∷ cs

-- the byte at which they begin
abbrev pub mark_size : List ℕ → ℕ
mark_size [] = 0
mark_size (c ∷ cs) = if c == byte_order_mark then size_of (c ∷ []) else 0

-- The text is UTF-8, and is cut into pieces; these are its tokens, with the inserted semicolons, and its comments.
pub record TokensOf (text : List ℕ) (tokens : List Token) (comments : List Comment) : Type 0 where
  pub characters : List ℕ
  pub scalars : all_scalars characters ≡ true
  pub encoded : encode_utf8_all characters ≡ text
  pub pieces : List Piece
  pub cut : CutsTo (after_mark characters) pieces []
  pub tokens_are : tokens ≡ tokens_from (mark_size characters) None pieces
  pub comments_are : comments ≡ comments_from (mark_size characters) pieces

-- how many bytes pieces have
abbrev pub pieces_size : List Piece → ℕ
pieces_size [] = 0
pieces_size (p ∷ ps) = size_of p.word + pieces_size ps

-- The text is UTF-8, and is cut into pieces up to this byte, at which more of it follows and no piece is next.
pub record StopsAt (text : List ℕ) (place : ℕ) : Type 0 where
  pub characters : List ℕ
  pub scalars : all_scalars characters ≡ true
  pub encoded : encode_utf8_all characters ≡ text
  pub pieces : List Piece
  pub rest : List ℕ
  pub cut : CutsTo (after_mark characters) pieces rest
  pub more : rest ≢ []
  pub none : (kind : PieceKind) (word others : List ℕ) → IsNext rest kind word others → ⊥
  pub place_is : place ≡ mark_size characters + pieces_size pieces
