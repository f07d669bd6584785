-- The tokens of a text start one behind the other; so parts that begin at different tokens have different spans.
use Rattle.std.proofs.Common.{◌≡◌, ◌+◌, ◌<◌, ◌≤◌, ℕ, Bool, true, false, List, [], ◌∷◌, ◌++◌, Option, Some, None, sym, ap, subst, arith, length-append}
use Rattle.std.specs.Prelude.{if◌then◌else◌, encode_utf8_all}
use Rattle.std.proofs.lemmas.Str.{length-encode, len_utf8_bounds}
use Rattle.std.proofs.Math.Utf8.{encode}
use Rattle.go_tree.specs.declared.spans.Span.{Span}
use Rattle.go_tree.specs.declared.tokens.Token.{Token}
use Rattle.go_tree.specs.declared.tokens.Comment.{Comment}
use Rattle.go_tree.specs.GoWords.Tokens.Characters.{is_listed}
use Rattle.go_tree.specs.GoWords.Tokens.{TokensOf, after_mark, mark_size, tokens_at, tokens_from, size_of, span_of, inserted, due_after, ends_line}
use Rattle.go_tree.specs.GoWords.Tokens.Pieces.{PieceKind, blanks, remark, token, Piece, IsPiece, CutsTo}
use Rattle.go_tree.specs.GoWords.Terminals.{Lexeme, lex, semicolon, terminal_of, lexemes}
use Rattle.go_read.specs.SpellsTypes.{Lexemes}
use Rattle.go_read.specs.SpellsSpans.{span_to, start_of}
use Rattle.go_scan.proofs.PieceKinds.{never_empty}
use Rattle.splice_laws.specs.Replaced.{starts_rise}
use Rattle.splice_laws.proofs.Grafts.{Within, here, later}
use Rattle.splice_laws.proofs.Apart.{Differ}

rise_tail : (t : Lexeme) (ts : Lexemes) → starts_rise (t ∷ ts) → starts_rise ts
rise_tail t [] a = tt
rise_tail (lex s x) (lex u y ∷ ts) a = a.1

behind_start : (t v : Lexeme) (us vs : Lexemes) → starts_rise (t ∷ us) → Within (v ∷ vs) us → start_of (t ∷ us) < start_of (v ∷ vs)
behind_start (lex s x) (lex u y) _ vs a here = a.0
behind_start (lex s x) v (lex u y ∷ us) vs a (later w) = let b = behind_start (lex u y) v us vs a.1 w in let c = a.0 in omega (arith, b, c)

rise_within : {us ts : Lexemes} → Within us ts → starts_rise ts → starts_rise us
rise_within here a = a
rise_within (later {t = t} {ts = ts} x) a = rise_within x (rise_tail t ts a)

pub spans_differ : (ts : Lexemes) → starts_rise ts → Differ span_to ts
spans_differ ts rise = λ t v us vs q r x y e.
    let b = behind_start t v us vs (rise_within x rise) y in
    let c : start_of (t ∷ us) ≡ start_of (v ∷ vs) = ap (λ (s : Span). s.start) e in
    absurd (omega (arith, b, c))

-- ---- the tokens of pieces

-- they start one behind the other, and none before this byte
abbrev RiseFrom : ℕ → Lexemes → Type 0
RiseFrom n [] = Unit {0}
RiseFrom n (lex s x ∷ ts) = (n ≤ s.start) × starts_rise (lex s x ∷ ts)

rise_lower : (m n : ℕ) (ts : Lexemes) → m ≤ n → RiseFrom n ts → RiseFrom m ts
rise_lower m n [] le a = tt
rise_lower m n (lex s x ∷ ts) le a = let b = a.0 in (omega (arith, le, b), a.1)

rise_one : (n : ℕ) (t : Lexeme) (m : ℕ) (ts : Lexemes) → n ≤ start_of (t ∷ []) → start_of (t ∷ []) < m → RiseFrom m ts → RiseFrom n (t ∷ ts)
rise_one n (lex s x) m [] le lt a = (le, tt)
rise_one n (lex s x) m (lex u y ∷ ts) le lt a = let b = a.0 in (le, (omega (arith, lt, b), a.1))

-- from where the tokens may start, where a semicolon may be due
abbrev from_due : ℕ → Option ℕ → ℕ
from_due at None = at
from_due at (Some d) = d

abbrev DueFits : ℕ → Option ℕ → Type 0
DueFits at None = Unit {0}
DueFits at (Some d) = d ≤ at

pub piece_size : (k : PieceKind) (w : List ℕ) → IsPiece k w → 1 ≤ size_of w
piece_size k [] p = absurd (never_empty k p)
piece_size k (c ∷ cs) p = let a = length-append (encode c) (encode_utf8_all cs) in omega (arith, a, length-encode c, (len_utf8_bounds c).0)

newline_rises : (at : ℕ) (due : Option ℕ) (size : ℕ) (b : Bool) (ts : List Token) → DueFits at due → 1 ≤ size → RiseFrom (if b then at + size else from_due (at + size) due) (lexemes ts)
    → RiseFrom (from_due at due) (lexemes ((if b then inserted due else []) ++ ts))
newline_rises at None size true ts fits one a = rise_lower at (at + size) (lexemes ts) (omega arith) a
newline_rises at None size false ts fits one a = rise_lower at (at + size) (lexemes ts) (omega arith) a
newline_rises at (Some d) size true ts fits one a = rise_one d (lex (record { start = d; end = d }) semicolon) (at + size) (lexemes ts) (omega arith) (omega (arith, fits, one)) a
newline_rises at (Some d) size false ts fits one a = a

due_newline : (at : ℕ) (due : Option ℕ) (size : ℕ) (b : Bool) → DueFits at due → DueFits (at + size) (if b then None else due)
due_newline at None size true fits = tt
due_newline at None size false fits = tt
due_newline at (Some d) size true fits = tt
due_newline at (Some d) size false fits = omega (arith, fits)

from_newline : (at : ℕ) (due : Option ℕ) (size : ℕ) (b : Bool) (ts : Lexemes) → RiseFrom (from_due (at + size) (if b then None else due)) ts → RiseFrom (if b then at + size else from_due (at + size) due) ts
from_newline at due size true ts a = a
from_newline at due size false ts a = a

due_token : (at size : ℕ) (b : Bool) → DueFits (at + size) (if b then Some (at + size) else None)
due_token at size true = omega arith
due_token at size false = tt

from_token : (at size : ℕ) (b : Bool) (ts : Lexemes) → RiseFrom (from_due (at + size) (if b then Some (at + size) else None)) ts → RiseFrom (at + size) ts
from_token at size true ts a = a
from_token at size false ts a = a

due_low : (at : ℕ) (due : Option ℕ) → DueFits at due → from_due at due ≤ at
due_low at None fits = omega arith
due_low at (Some d) fits = fits

pieces_rise : (ps : List Piece) (text : List ℕ) (at : ℕ) (due : Option ℕ) → CutsTo text ps [] → DueFits at due → RiseFrom (from_due at due) (lexemes (tokens_from at due ps))
unfolding tokens_from
pieces_rise [] text at None cut fits = tt
pieces_rise [] text at (Some d) cut fits = (omega arith, tt)
pieces_rise (p ∷ ps) text at due cut fits =
    by_kind p.kind p.word (piece_size p.kind p.word cut.1.spelled) (λ d f. pieces_rise ps cut.0 (at + size_of p.word) d cut.2 f)
  where
    by_kind : (k : PieceKind) (w : List ℕ) → 1 ≤ size_of w
        → ((d : Option ℕ) → DueFits (at + size_of w) d → RiseFrom (from_due (at + size_of w) d) (lexemes (tokens_from (at + size_of w) d ps)))
        → RiseFrom (from_due at due) (lexemes (tokens_at at due k w ++ tokens_from (at + size_of w) (due_after at due k w) ps))
    by_kind blanks w one ih =
        let b = is_listed w 10 in
        newline_rises at due (size_of w) b _ fits one (from_newline at due (size_of w) b _ (ih (if b then None else due) (due_newline at due (size_of w) b fits)))
    by_kind remark w one ih =
        let b = is_listed w 10 in
        newline_rises at due (size_of w) b _ fits one (from_newline at due (size_of w) b _ (ih (if b then None else due) (due_newline at due (size_of w) b fits)))
    by_kind (token k) w one ih =
        let b = ends_line k w in
        let ts : Lexemes = lexemes (tokens_from (at + size_of w) (if b then Some (at + size_of w) else None) ps) in
        let later : at < at + size_of w = omega (arith, one) in
        rise_one (from_due at due) (lex (span_of at w) (terminal_of k (encode_utf8_all w))) (at + size_of w) ts (due_low at due fits) later
        (from_token at (size_of w) b ts (ih (if b then Some (at + size_of w) else None) (due_token at (size_of w) b)))

rises : (n : ℕ) (ts : Lexemes) → RiseFrom n ts → starts_rise ts
rises n [] a = tt
rises n (lex s x ∷ ts) a = a.1

pub tokens_rise : (text : List ℕ) (tokens : List Token) (comments : List Comment) → TokensOf text tokens comments → starts_rise (lexemes tokens)
tokens_rise text tokens comments t =
    subst (λ (ts : List Token). starts_rise (lexemes ts)) (sym t.tokens_are) (rises _ _ (pieces_rise t.pieces (after_mark t.characters) (mark_size t.characters) None t.cut tt))
