-- The pieces of a layout's text.
use Rattle.std.specs.Prelude.{ℕ, ◌+◌, Bool, false, List, [], ◌∷◌, ◌++◌, Option}
use Rattle.std.specs.Str.{chars}
use Rattle.go_tree.specs.declared.tokens.TokenKind.{TokenKind}
use Rattle.go_tree.specs.declared.tokens.TokenKind.TheVariants.{Keyword, Operator}
use Rattle.go_tree.specs.GoWords.Tokens.{size_of, ends_line, due_after}
use Rattle.go_tree.specs.GoWords.Tokens.Pieces.{blanks, token, Piece}
use Rattle.go_layout.specs.Layouts.{Layout, no_text, a_token, gap, line, ◌⊕◌}

-- the characters of a token; keywords and operators are written in ASCII
abbrev pub word_of : TokenKind → List ℕ → List ℕ
word_of Keyword spelling = spelling
word_of Operator spelling = spelling
word_of _ spelling = chars spelling

-- the characters of the layout, and then more
abbrev pub letters_of : Layout → List ℕ → List ℕ
letters_of no_text more = more
letters_of (a_token kind spelling) more = word_of kind spelling ++ more
letters_of gap more = 32 ∷ more
letters_of (line _ indent) more = 10 ∷ indent ++ more
letters_of (a ⊕ b) more = letters_of a (letters_of b more)

-- the pieces of the layout, and then more
abbrev pub pieces_of : Layout → List Piece → List Piece
pieces_of no_text ps = ps
pieces_of (a_token kind spelling) ps = record { kind = token kind; word = word_of kind spelling } ∷ ps
pieces_of gap ps = record { kind = blanks; word = 32 ∷ [] } ∷ ps
pieces_of (line _ indent) ps = record { kind = blanks; word = 10 ∷ indent } ∷ ps
pieces_of (a ⊕ b) ps = pieces_of a (pieces_of b ps)

-- whether a newline after the layout gives a semicolon, where one before it would or not
abbrev pub due_of : Layout → Bool → Bool
due_of no_text due = due
due_of (a_token kind spelling) due = ends_line kind (word_of kind spelling)
due_of gap due = due
due_of (line _ _) due = false
due_of (a ⊕ b) due = due_of b (due_of a due)

-- the end of the last token of pieces that begin at this byte, where a newline behind them gives a semicolon
unfoldable pub due_behind : ℕ → Option ℕ → List Piece → Option ℕ
due_behind at due [] = due
due_behind at due (p ∷ ps) = due_behind (at + size_of p.word) (due_after at due p.kind p.word) ps
