-- The pieces of a text: runs of blanks, comments and tokens (Go specification, Lexical elements).
use Rattle.std.specs.Prelude.{◌≡◌, ℕ, ◌≤◌, ◌==◌, Bool, true, false, not, ◌&&◌, List, []}
use Rattle.std.specs.Prelude.{◌∷◌, ◌++◌, map, length, codes, bytes_eq, if◌then◌else◌}
use Rattle.std.specs.List.{list_any}
use Rattle.go_tree.specs.declared.tokens.TokenKind.{TokenKind}
use Rattle.go_tree.specs.declared.tokens.TokenKind.TheVariants.{Ident, Keyword, Operator, Integer, Float, Imaginary}
use Rattle.go_tree.specs.declared.tokens.TokenKind.TheVariants.{Rune, Str, Inserted}
use Rattle.go_tree.specs.GoWords.Terminals.{keywords, operators, spellings}
use Rattle.go_tree.specs.GoWords.Tokens.Characters.{is_letter, is_word, is_blank, each}
use Rattle.go_tree.specs.GoWords.Tokens.Forms.{Form, one_of, in_turn, any_of, HasForm}
use Rattle.go_tree.specs.GoWords.Tokens.Literals.{int_lit, float_lit, imaginary_lit, rune_lit, string_lit, comment}

-- a run of blanks, a comment, or a token of some kind
pub data PieceKind : Type 0 where
  blanks : PieceKind
  remark : PieceKind
  token : TokenKind → PieceKind

-- how the keywords are spelled
unfoldable pub keyword_spellings : List (List ℕ)
keyword_spellings = spellings keywords

-- how the operators are spelled
unfoldable pub operator_spellings : List (List ℕ)
operator_spellings = spellings operators

-- this word alone
abbrev pub exactly : List ℕ → Form
exactly word = in_turn (map (λ c. one_of (c ∷ [])) word)

-- the spelling of an operator
unfoldable pub operator : Form
unfolding operator_spellings
operator = any_of (map exactly operator_spellings)

-- the word is one of these
abbrev pub is_among : List (List ℕ) → List ℕ → Bool
is_among list word = list_any (bytes_eq word) list

-- a letter, and then letters and digits
abbrev pub is_identifier : List ℕ → Bool
is_identifier [] = false
is_identifier (c ∷ cs) = is_letter c && each is_word cs

-- blanks alone, and at least one
abbrev pub is_blanks : List ℕ → Bool
is_blanks [] = false
is_blanks (c ∷ cs) = each is_blank (c ∷ cs)

-- the characters are a piece of this kind
abbrev pub IsPiece : PieceKind → List ℕ → Type 0
IsPiece blanks word = is_blanks word ≡ true
IsPiece remark word = HasForm comment word
IsPiece (token Ident) word = (is_identifier word ≡ true) × (is_among keyword_spellings word ≡ false)
IsPiece (token Keyword) word = is_among keyword_spellings word ≡ true
IsPiece (token Operator) word = HasForm operator word
IsPiece (token Integer) word = HasForm int_lit word
IsPiece (token Float) word = HasForm float_lit word
IsPiece (token Imaginary) word = HasForm imaginary_lit word
IsPiece (token Rune) word = HasForm rune_lit word
IsPiece (token Str) word = HasForm string_lit word
IsPiece (token Inserted) word = ⊥

-- no letter or digit comes first
abbrev pub no_word_first : List ℕ → Bool
no_word_first [] = true
no_word_first (c ∷ cs) = not (is_word c)

-- no `*` comes first
abbrev pub no_star_first : List ℕ → Bool
no_star_first [] = true
no_star_first (c ∷ cs) = not (c == 42)

-- a piece of this kind may be followed by the rest: no letter or digit after a number, no `*` after the token `/`
abbrev pub may_precede : PieceKind → List ℕ → List ℕ → Bool
may_precede (token Integer) word rest = no_word_first rest
may_precede (token Float) word rest = no_word_first rest
may_precede (token Imaginary) word rest = no_word_first rest
may_precede (token Operator) word rest = if bytes_eq word (codes "/") then no_star_first rest else true
may_precede _ word rest = true

-- The text goes on with this piece, and then the rest: no longer front of the text is a piece.
pub record IsNext (text : List ℕ) (kind : PieceKind) (word rest : List ℕ) : Type 0 where
  pub parts : text ≡ word ++ rest
  pub spelled : IsPiece kind word
  pub longest : (k : PieceKind) (front more : List ℕ) → text ≡ front ++ more → IsPiece k front →
      length front ≤ length word
  pub follows : may_precede kind word rest ≡ true

-- a piece: its kind, and its characters
pub record Piece : Type 0 where
  pub kind : PieceKind
  pub word : List ℕ

-- the text is these pieces, and then the rest
abbrev pub CutsTo : List ℕ → List Piece → List ℕ → Type 0
CutsTo text [] rest = text ≡ rest
CutsTo text (p ∷ ps) rest = (more : List ℕ) × IsNext text p.kind p.word more × CutsTo more ps rest
