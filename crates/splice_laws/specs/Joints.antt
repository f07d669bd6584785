-- A text in parts: its tokens, comments and blanks, where a run of blanks may be in several parts (Go specification,
-- Tokens, Comments). So a text can be parted within blanks too, as at the start of a line.
use Rattle.std.specs.Prelude.{◌≡◌, ◌⊎◌, ℕ, ◌+◌, ◌==◌, Bool, true, false, not, ◌&&◌, nat_eq}
use Rattle.std.specs.Prelude.{nat_le, bytes_eq, if◌then◌else◌, List, [], ◌∷◌, ◌++◌, Option}
use Rattle.std.specs.Prelude.{encode_utf8_all, codes}
use Rattle.std.specs.Str.{all_scalars}
use Rattle.go_tree.specs.declared.spans.Span.{Span}
use Rattle.go_tree.specs.declared.tokens.Token.{Token}
use Rattle.go_tree.specs.declared.tokens.Comment.{Comment}
use Rattle.go_tree.specs.declared.tokens.TokenKind.{TokenKind}
use Rattle.go_tree.specs.declared.tokens.TokenKind.TheVariants.{Integer, Operator, Inserted}
unfoldable pub use Rattle.go_layout.specs.LayoutLaws.LayoutPieces.{due_behind}
use Rattle.text_edits.specs.declared.edit.Edit.{Edit}
use Rattle.text_edits.specs.InTurn.{moved_offset}
use Rattle.go_tree.specs.GoWords.Tokens.Characters.{byte_order_mark}
use Rattle.go_tree.specs.GoWords.Tokens.{size_of, tokens_at, due_after, pieces_size}
use Rattle.go_tree.specs.GoWords.Tokens.Pieces.{PieceKind, blanks, remark, token, Piece, is_blanks, IsNext}

-- the characters of pieces
abbrev pub words_of : List Piece → List ℕ
words_of [] = []
words_of (p ∷ ps) = p.word ++ words_of ps

-- blanks are a part wherever they stand; a token or comment is one where it is the next piece
abbrev pub IsPart : PieceKind → List ℕ → List ℕ → Type 0
IsPart blanks word more = is_blanks word ≡ true
IsPart remark word more = IsNext (word ++ more) remark word more
IsPart (token k) word more = IsNext (word ++ more) (token k) word more

-- the text is these parts, and then the rest
abbrev pub PartsTo : List ℕ → List Piece → List ℕ → Type 0
PartsTo text [] rest = text ≡ rest
PartsTo text (p ∷ ps) rest = (more : List ℕ) × (text ≡ p.word ++ more) × IsPart p.kind p.word more
    × PartsTo more ps rest

-- ---- where a part ends

-- The part ends before the first of these characters whatever stands behind it, or where the text ends.
abbrev pub EndsBefore : Piece → List ℕ → Type 0
EndsBefore p [] = IsPart p.kind p.word []
EndsBefore p (c ∷ cs) = (more : List ℕ) → IsPart p.kind p.word (c ∷ more)

-- each of the parts but the last ends before the next
abbrev pub InnerEnd : List Piece → Type 0
InnerEnd [] = Unit {0}
InnerEnd (p ∷ []) = Unit {0}
InnerEnd (p ∷ q ∷ ps) = EndsBefore p q.word × InnerEnd (q ∷ ps)

-- the last of the parts, where there is one, ends before these characters
abbrev pub LastEnds : List Piece → List ℕ → Type 0
LastEnds [] next = Unit {0}
LastEnds (p ∷ []) next = EndsBefore p next
LastEnds (p ∷ q ∷ ps) next = LastEnds (q ∷ ps) next

-- An integer or a dot, before a dot, may go on with what stands behind the dot: `0x1`, `.` and `p5` side by side are
-- one float.
abbrev pub IsOpen : Piece → Type 0
IsOpen p = (p.kind ≡ token Integer) ⊎ ((p.kind ≡ token Operator) × (p.word ≡ codes "."))

-- a dot comes first
abbrev pub begins_with_dot : List ℕ → Bool
begins_with_dot [] = false
begins_with_dot (c ∷ cs) = c == 46

-- of parts: no integer and no dot stands directly before a dot
abbrev pub DotsApart : List Piece → Type 0
DotsApart [] = Unit {0}
DotsApart (p ∷ []) = Unit {0}
DotsApart (p ∷ q ∷ ps) = (begins_with_dot q.word ≡ true → IsOpen p → ⊥) × DotsApart (q ∷ ps)

-- ---- a text in three parts

-- a byte order mark, or nothing
abbrev pub IsMark : List ℕ → Type 0
IsMark mark = (mark ≡ []) ⊎ (mark ≡ byte_order_mark ∷ [])

-- The text is a byte order mark or none, and then these parts: those before a span, those within it, and those behind
-- it.
pub record Parted (text mark : List ℕ) (before inside behind : List Piece) (tail : List ℕ) : Type 0 where
  pub is_mark : IsMark mark
  pub scalars : all_scalars (mark ++ (words_of before ++ (words_of inside ++ tail))) ≡ true
  pub encoded : encode_utf8_all (mark ++ (words_of before ++ (words_of inside ++ tail))) ≡ text
  pub parts : PartsTo (words_of before ++ (words_of inside ++ tail)) (before ++ (inside ++ behind)) []
  pub parts_behind : PartsTo tail behind []

-- where the parts within the span begin, and where they end
abbrev pub begin_of : List ℕ → List Piece → ℕ
begin_of mark before = size_of mark + pieces_size before

-- the span of the parts within, behind a mark and the parts before them
abbrev pub span_within : List ℕ → List Piece → List Piece → Span
span_within mark before inside = record {
  start = begin_of mark before;
  end = begin_of mark before + pieces_size inside;
}

-- what the parts within a span become: these characters, which are so parted before what stands behind the span
pub record Fitting (new : List ℕ) (pieces : List Piece) (tail : List ℕ) (behind : List Piece) (bytes : List ℕ) : Type
    0 where
  pub scalars : all_scalars new ≡ true
  pub encoded : encode_utf8_all new ≡ bytes
  pub words : words_of pieces ≡ new
  pub parts : PartsTo (new ++ tail) (pieces ++ behind) []

-- ---- the tokens of parts

-- the tokens that the pieces give, without one at the end of the text
unfoldable pub given : ℕ → Option ℕ → List Piece → List Token
given at due [] = []
given at due (p ∷ ps) = tokens_at at due p.kind p.word
    ++ given (at + size_of p.word) (due_after at due p.kind p.word) ps

-- ---- the span of some tokens

-- a token that stands in the text, and isn't inserted
abbrev pub IsWritten : Token → Type 0
IsWritten t = t.kind ≡ Inserted → ⊥

-- The tokens begin and end with one that stands in the text, and this is their span; `last` is the last of them.
pub data Spans : List Token → Token → Span → Type 0 where
  of_one : {t : Token} → IsWritten t → Spans (t ∷ []) t t.span
  of_more : {t last : Token} (middle : List Token) → IsWritten t → IsWritten last
      → Spans (t ∷ (middle ++ last ∷ [])) last (record { start = t.span.start; end = last.span.end })

-- ---- dots, by tokens

-- an integer or a dot, which may go on behind a dot
abbrev pub is_open : TokenKind → List ℕ → Bool
is_open Integer spelling = true
is_open Operator spelling = bytes_eq spelling (codes ".")
is_open _ spelling = false

-- an integer or a dot, directly before a dot
abbrev pub runs_on : Token → Token → Bool
runs_on t u = nat_eq t.span.end u.span.start && (is_open t.kind t.spelling && begins_with_dot u.spelling)

-- of tokens: no integer and no dot stands directly before a dot
abbrev pub dots_apart : List Token → Bool
dots_apart [] = true
dots_apart (t ∷ []) = true
dots_apart (t ∷ u ∷ ts) = not (runs_on t u) && dots_apart (u ∷ ts)

-- ---- what moves behind an edit

-- a span behind an edit, once the edit is made
abbrev pub moved_span : Edit → Span → Span
moved_span e s = record { start = moved_offset e s.start; end = moved_offset e s.end }

-- a token behind an edit, once the edit is made
abbrev pub moved_token : Edit → Token → Token
moved_token e t = record t { span = moved_span e t.span }

-- a comment behind an edit, once the edit is made
abbrev pub moved_comment : Edit → Comment → Comment
moved_comment e c = record { span = moved_span e c.span }

-- the comments that an edit leaves: those before its range, and those behind it, which move; those within it go
abbrev pub left_comments : Edit → List Comment → List Comment
left_comments e [] = []
left_comments e (c ∷ cs) =
    if nat_le c.span.end e.span.start then c ∷ left_comments e cs
    else (if nat_le e.span.end c.span.start then moved_comment e c ∷ left_comments e cs else left_comments e cs)
