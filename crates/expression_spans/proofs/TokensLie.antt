-- Where parts of tokens begin and end, in the tokens of a text: these stand one behind the other, and each but an
-- inserted semicolon has a byte.
use Rattle.std.proofs.Common.{◌≡◌, ◌+◌, ◌-◌, ◌<◌, ◌≤◌, ℕ, suc, Bool, true, false, List, [], ◌∷◌, ◌++◌, length, take}
use Rattle.std.proofs.Common.{Option, Some, None, refl, sym, ap, subst, ◌∙◌, arith, length-append}
use Rattle.std.specs.Prelude.{if◌then◌else◌, encode_utf8_all}
use Rattle.std.proofs.lemmas.Str.{length-encode, len_utf8_bounds}
use Rattle.std.proofs.Math.Utf8.{encode}
use Rattle.go_tree.specs.declared.spans.Span.{Span}
use Rattle.go_tree.specs.declared.tokens.Token.{Token}
use Rattle.go_tree.specs.declared.tokens.Comment.{Comment}
use Rattle.go_tree.specs.GoWords.Tokens.Characters.{is_listed}
use Rattle.go_tree.specs.GoWords.Tokens.{TokensOf, after_mark, mark_size, tokens_at, tokens_from, size_of, span_of}
use Rattle.go_tree.specs.GoWords.Tokens.{inserted, due_after, ends_line}
use Rattle.go_tree.specs.GoWords.Tokens.Pieces.{PieceKind, blanks, remark, token, Piece, IsPiece, CutsTo}
use Rattle.go_tree.specs.GoWords.Terminals.{Terminal, Lexeme, lex, semicolon, terminal_of, lexemes}
use Rattle.go_read.specs.SpellsTypes.{Lexemes}
use Rattle.go_read.specs.SpellsSpans.{start_of, end_after, span_to}
use Rattle.go_read.proofs.Suffixes.{Suffix, whole, after}
use Rattle.go_scan.proofs.PieceKinds.{never_empty}

-- a semicolon, which may have been inserted
abbrev pub is_semicolon : Terminal → Bool
is_semicolon semicolon = true
is_semicolon _ = false

-- the next token begins where one with this span ends, or later
abbrev pub Behind : Span → Lexemes → Type 0
Behind s [] = Unit {0}
Behind s (lex u x ∷ ts) = s.end ≤ u.start

-- the tokens stand one behind the other, and each has a byte but a semicolon
pub data Lie : Lexemes → Type 0 where
  none : Lie []
  one : {s : Span} {x : Terminal} {ts : Lexemes} → s.start ≤ s.end → (is_semicolon x ≡ false → s.start < s.end) →
      Behind s ts → Lie ts → Lie (lex s x ∷ ts)

pub size-of : {s : Span} {x : Terminal} {ts : Lexemes} → Lie (lex s x ∷ ts) → s.start ≤ s.end
size-of (one a b c d) = a

pub byte-of : {s : Span} {x : Terminal} {ts : Lexemes} → Lie (lex s x ∷ ts) → is_semicolon x ≡ false → s.start < s.end
byte-of (one a b c d) = b

pub behind-of : {s : Span} {x : Terminal} {ts : Lexemes} → Lie (lex s x ∷ ts) → Behind s ts
behind-of (one a b c d) = c

pub rest-of : {s : Span} {x : Terminal} {ts : Lexemes} → Lie (lex s x ∷ ts) → Lie ts
rest-of (one a b c d) = d

-- there are tokens
pub data Full : Lexemes → Type 0 where
  full : {t : Lexeme} {ts : Lexemes} → Full (t ∷ ts)

-- there are tokens before the others
pub data More (r : Lexemes) : Lexemes → Type 0 where
  more : {t : Lexeme} {ts : Lexemes} → Suffix r ts → More r (t ∷ ts)

-- ---- parts of tokens

pub onto : {r mid ts : Lexemes} → Suffix r mid → Suffix mid ts → Suffix r ts
onto d whole = d
onto d (after k) = after (onto d k)

pub skip : {x : Lexeme} {r ts : Lexemes} → Suffix (x ∷ r) ts → Suffix r ts
skip d = onto (after whole) d

pub full-more : {r ts : Lexemes} → More r ts → Full ts
full-more (more w) = full

pub full-on : {r ts : Lexemes} → Suffix r ts → Full r → Full ts
full-on whole f = f
full-on (after w) f = full

pub lie-on : {r ts : Lexemes} → Suffix r ts → Lie ts → Lie r
lie-on whole g = g
lie-on (after {x = lex s x} w) g = lie-on w (rest-of g)

pub as-suffix : {r ts : Lexemes} → More r ts → Suffix r ts
as-suffix (more w) = after w

-- tokens before one and what is behind it
pub more-at : {t : Lexeme} {r ts : Lexemes} → Suffix (t ∷ r) ts → More r ts
more-at whole = more whole
more-at (after w) = more (skip w)

pub more-past : {r mid ts : Lexemes} → Suffix mid ts → More r mid → More r ts
more-past whole m = m
more-past (after w) m = more (onto (as-suffix m) w)

pub past-more : {r mid ts : Lexemes} → More mid ts → Suffix r mid → More r ts
past-more (more w) v = more (onto v w)

-- ---- starts

first-past : (s : Span) (ts : Lexemes) → Full ts → Behind s ts → s.end ≤ start_of ts
first-past s [] f b = elim f [ ]
first-past s (lex u y ∷ ts) full b = b

pub le-le : {a b c : ℕ} → a ≤ b → b ≤ c → a ≤ c
le-le x y = omega (arith, x, y)

pub lt-le : {a b c : ℕ} → a < b → b ≤ c → a < c
lt-le x y = omega (arith, x, y)

pub le-lt : {a b c : ℕ} → a ≤ b → b < c → a < c
le-lt x y = omega (arith, x, y)

pub as-le : {a b : ℕ} → a < b → a ≤ b
as-le x = omega (arith, x)

pub itself : {a : ℕ} → a ≤ a
itself = omega arith

pub starts-up : {r ts : Lexemes} → Suffix r ts → Lie ts → Full r → start_of ts ≤ start_of r
starts-up whole g f = itself
starts-up (after {x = lex s x} {ts = ts} w) g f =
    le-le (size-of g) (le-le (first-past s ts (full-on w f) (behind-of g)) (starts-up w (rest-of g) f))

-- what is behind a token that has a byte begins behind its start
pub starts-past : (s : Span) (x : Terminal) {ts : Lexemes} → is_semicolon x ≡ false → Lie (lex s x ∷ ts) → Full ts →
    s.start < start_of ts
starts-past s x {ts = ts} e g f = lt-le (byte-of g e) (first-past s ts f (behind-of g))

-- ---- ends

-- the end of the last token before others, or a place where there is none
abbrev pub end_before : {r ts : Lexemes} → ℕ → Suffix r ts → ℕ
end_before n whole = n
end_before n (after {x = lex s x} w) = end_before s.end w

shorter : {r ts : Lexemes} → Suffix r ts → length r ≤ length ts
shorter whole = omega arith
shorter (after w) = let k = shorter w in omega (arith, k)

pub end_is : {r ts : Lexemes} (n : ℕ) (w : Suffix r ts) →
    end_after n (take (length ts - length r) ts) ≡ end_before n w
end_is {r = r} n whole =
    let empty : length r - length r ≡ 0 = omega arith in ap (λ (k : ℕ). end_after n (take k r)) empty
end_is {r = r} n (after {x = lex s x} {ts = ts} w) =
    let more : suc (length ts) - length r ≡ suc (length ts - length r) = let k = shorter w in omega (arith, k) in
    ap (λ (k : ℕ). end_after n (take k (lex s x ∷ ts))) more ∙ end_is s.end w

ends-before : {r ts : Lexemes} (n : ℕ) (w : Suffix r ts) → Lie ts → Full r → n ≤ start_of ts →
    end_before n w ≤ start_of r
ends-before n whole g f h = h
ends-before n (after {x = lex s x} {ts = ts} w) g f h =
    ends-before s.end w (rest-of g) f (first-past s ts (full-on w f) (behind-of g))

-- a part ends where the tokens behind it begin, or before
pub ends-by : {r ts : Lexemes} → More r ts → Lie ts → Full r → (span_to ts r).end ≤ start_of r
ends-by {r = r} (more {t = lex s x} {ts = ts} w) g f =
    subst (λ (n : ℕ). n ≤ start_of r) (sym (end_is s.start (after {x = lex s x} w)))
    (ends-before s.end w (rest-of g) f (first-past s ts (full-on w f) (behind-of g)))

last-end : (c : Span) (y : Terminal) {r ts : Lexemes} (n : ℕ) (w : Suffix (lex c y ∷ r) ts) →
    end_before n (skip w) ≡ c.end
unfolding skip onto
last-end c y n whole = refl
last-end c y n (after {x = lex s x} w) = last-end c y s.end w

-- it ends with its last token
pub ends-at : (c : Span) (y : Terminal) {r ts : Lexemes} → Suffix (lex c y ∷ r) ts → (span_to ts r).end ≡ c.end
ends-at c y {ts = ts} w = end_is (start_of ts) (skip w) ∙ last-end c y (start_of ts) w

past-end : {r mid ts : Lexemes} (m n : ℕ) (v : Suffix mid ts) (w : More r mid) →
    end_before n (onto (as-suffix w) v) ≡ end_before m (as-suffix w)
unfolding onto as-suffix
past-end m n whole (more {t = lex s x} w) = refl
past-end m n (after {x = lex s x} v) w = past-end m s.end v w

-- it ends with its last part
pub ends-with : {r mid ts : Lexemes} → Suffix mid ts → More r mid → (span_to ts r).end ≡ (span_to mid r).end
ends-with {mid = mid} {ts = ts} v w =
    end_is (start_of ts) (onto (as-suffix w) v) ∙ past-end (start_of mid) (start_of ts) v w
    ∙ sym (end_is (start_of mid) (as-suffix w))

-- ---- the tokens of a text

-- they stand one behind the other from this byte on
abbrev From : ℕ → Lexemes → Type 0
From n ts = Behind (record { start = n; end = n }) ts × Lie ts

from_lower : (m n : ℕ) (ts : Lexemes) → m ≤ n → From n ts → From m ts
from_lower m n [] le a = (tt, a.1)
from_lower m n (lex s x ∷ ts) le a = let b = a.0 in (omega (arith, le, b), a.1)

from_one : (n m : ℕ) (s : Span) (x : Terminal) (ts : Lexemes) → n ≤ s.start → s.start ≤ s.end →
    (is_semicolon x ≡ false → s.start < s.end) → s.end ≤ m → From m ts → From n (lex s x ∷ ts)
from_one n m s x ts le size byte by a = (le, one size byte (from_lower s.end m ts by a).0 a.1)

-- from where the tokens may start, where a semicolon may be due
abbrev from_due : ℕ → Option ℕ → ℕ
from_due at None = at
from_due at (Some d) = d

abbrev DueFits : ℕ → Option ℕ → Type 0
DueFits at None = Unit {0}
DueFits at (Some d) = d ≤ at

piece_size : (k : PieceKind) (w : List ℕ) → IsPiece k w → 1 ≤ size_of w
piece_size k [] p = absurd (never_empty k p)
piece_size k (c ∷ cs) p =
    let a = length-append (encode c) (encode_utf8_all cs) in omega (arith, a, length-encode c, (len_utf8_bounds c).0)

newline_lies : (at : ℕ) (due : Option ℕ) (size : ℕ) (b : Bool) (ts : List Token) → DueFits at due →
    From (if b then at + size else from_due (at + size) due) (lexemes ts) →
    From (from_due at due) (lexemes ((if b then inserted due else []) ++ ts))
newline_lies at None size true ts fits a = from_lower at (at + size) (lexemes ts) (omega arith) a
newline_lies at None size false ts fits a = from_lower at (at + size) (lexemes ts) (omega arith) a
newline_lies at (Some d) size true ts fits a =
    from_one d (at + size) (record { start = d; end = d }) semicolon (lexemes ts) (omega arith) (omega arith)
    (λ e. absurd cc) (omega (arith, fits)) a
newline_lies at (Some d) size false ts fits a = a

due_newline : (at : ℕ) (due : Option ℕ) (size : ℕ) (b : Bool) → DueFits at due →
    DueFits (at + size) (if b then None else due)
due_newline at None size true fits = tt
due_newline at None size false fits = tt
due_newline at (Some d) size true fits = tt
due_newline at (Some d) size false fits = omega (arith, fits)

from_newline : (at : ℕ) (due : Option ℕ) (size : ℕ) (b : Bool) (ts : Lexemes) →
    From (from_due (at + size) (if b then None else due)) ts →
    From (if b then at + size else from_due (at + size) due) ts
from_newline at due size true ts a = a
from_newline at due size false ts a = a

due_token : (at size : ℕ) (b : Bool) → DueFits (at + size) (if b then Some (at + size) else None)
due_token at size true = omega arith
due_token at size false = tt

from_token : (at size : ℕ) (b : Bool) (ts : Lexemes) →
    From (from_due (at + size) (if b then Some (at + size) else None)) ts → From (at + size) ts
from_token at size true ts a = a
from_token at size false ts a = a

due_low : (at : ℕ) (due : Option ℕ) → DueFits at due → from_due at due ≤ at
due_low at None fits = omega arith
due_low at (Some d) fits = fits

pieces_lie : (ps : List Piece) (text : List ℕ) (at : ℕ) (due : Option ℕ) → CutsTo text ps [] → DueFits at due →
    From (from_due at due) (lexemes (tokens_from at due ps))
unfolding tokens_from
pieces_lie [] text at None cut fits = (tt, none)
pieces_lie [] text at (Some d) cut fits = (omega arith, one (omega arith) (λ e. absurd cc) tt none)
pieces_lie (p ∷ ps) text at due cut fits =
    by_kind p.kind p.word (piece_size p.kind p.word cut.1.spelled)
    (λ d f. pieces_lie ps cut.0 (at + size_of p.word) d cut.2 f)
  where
    by_kind : (k : PieceKind) (w : List ℕ) → 1 ≤ size_of w →
        ((d : Option ℕ) → DueFits (at + size_of w) d →
        From (from_due (at + size_of w) d) (lexemes (tokens_from (at + size_of w) d ps))) →
        From (from_due at due)
        (lexemes (tokens_at at due k w ++ tokens_from (at + size_of w) (due_after at due k w) ps))
    by_kind blanks w many ih =
        let b = is_listed w 10 in
        newline_lies at due (size_of w) b _ fits
        (from_newline at due (size_of w) b _ (ih (if b then None else due) (due_newline at due (size_of w) b fits)))
    by_kind remark w many ih =
        let b = is_listed w 10 in
        newline_lies at due (size_of w) b _ fits
        (from_newline at due (size_of w) b _ (ih (if b then None else due) (due_newline at due (size_of w) b fits)))
    by_kind (token k) w many ih =
        let b = ends_line k w in
        let ts : Lexemes = lexemes (tokens_from (at + size_of w) (if b then Some (at + size_of w) else None) ps) in
        from_one (from_due at due) (at + size_of w) (span_of at w) (terminal_of k (encode_utf8_all w)) ts
        (due_low at due fits) (omega arith) (λ e. omega (arith, many)) (omega arith)
        (from_token at (size_of w) b ts (ih (if b then Some (at + size_of w) else None) (due_token at (size_of w) b)))

pub tokens_lie : (text : List ℕ) (tokens : List Token) (comments : List Comment) → TokensOf text tokens comments →
    Lie (lexemes tokens)
tokens_lie text tokens comments t =
    subst (λ (ts : List Token). Lie (lexemes ts)) (sym t.tokens_are)
    (pieces_lie t.pieces (after_mark t.characters) (mark_size t.characters) None t.cut tt).1
