-- The piece at the front of a text, from what the scanner looks at.
use Rattle.std.specs.Prelude.{ℕ, ◌≤◌, List, [], ◌∷◌, length, take, drop, Option, Some, None}
use Rattle.std.specs.Prelude.{if◌then◌else◌}
use Rattle.std.specs.List.{prefix_len}
use Rattle.go_tree.specs.declared.tokens.TokenKind.TheVariants.{Ident, Keyword}
use Rattle.go_tree.specs.GoWords.Tokens.Characters.{is_letter, is_word, is_blank}
use Rattle.go_tree.specs.GoWords.Tokens.Pieces.{PieceKind, blanks, remark, token, keyword_spellings, is_among}
use Rattle.go_tree.specs.GoWords.Tokens.Pieces.{may_precede, IsNext}
use Rattle.go_scan.specs.declared.pieces.PieceKind as source
use Rattle.go_scan.specs.declared.pieces.PieceKind.TheVariants.{Blanks, Comment, Token}
use Rattle.go_scan.specs.declared.automaton.TheConstants.{START}
use Rattle.go_scan.specs.Automaton.{kind_in, longest_from}

-- the kind of a piece that the scanner saw
abbrev pub kind_of : source.PieceKind → PieceKind
kind_of Blanks = blanks
kind_of Comment = remark
kind_of (Token k) = token k

-- what the scanner saw as a value
abbrev pub seen : Option (source.PieceKind × ℕ) → Option (PieceKind × ℕ)
seen None = None
seen (Some x) = Some (kind_of x.0, x.1)

-- a word of letters and digits is a keyword or an identifier
abbrev pub word_kind : List ℕ → PieceKind
word_kind word = if is_among keyword_spellings word then token Keyword else token Ident

-- a piece of this length, where what follows may follow it
abbrev pub checked : PieceKind → ℕ → List ℕ → Option (PieceKind × ℕ)
checked kind len text = if may_precede kind (take len text) (drop len text) then Some (kind, len) else None

-- a piece that the automaton ended with, where what follows may follow it
abbrev pub lexeme_checked : Option (ℕ × ℕ) → List ℕ → Option (PieceKind × ℕ)
lexeme_checked None text = None
lexeme_checked (Some x) text = checked (kind_in x.0) x.1 text

-- of a text that begins with no blank and no letter
unfoldable pub lexeme_of : List ℕ → Option (PieceKind × ℕ)
lexeme_of text = lexeme_checked (longest_from START 0 None text) text

-- the kind and length of the piece
unfoldable pub piece_of : List ℕ → Option (PieceKind × ℕ)
piece_of [] = None
piece_of (c ∷ cs) =
    if is_blank c then Some (blanks, prefix_len is_blank (c ∷ cs))
    else (if is_letter c
    then Some (word_kind (take (prefix_len is_word (c ∷ cs)) (c ∷ cs)), prefix_len is_word (c ∷ cs))
    else lexeme_of (c ∷ cs))

-- What is answered is the next piece, and nothing is answered only where no piece is next.
abbrev pub Exact : List ℕ → Option (PieceKind × ℕ) → Type 0
Exact text None = (kind : PieceKind) (word rest : List ℕ) → IsNext text kind word rest → ⊥
Exact text (Some x) = IsNext text x.0 (take x.1 text) (drop x.1 text) × (x.1 ≤ length text)
