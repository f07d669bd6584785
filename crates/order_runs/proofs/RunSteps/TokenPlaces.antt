-- Where parts of tokens begin and end, in tokens that stand one behind the other.
use Rattle.std.proofs.Common.{◌<◌, ◌≤◌, ℕ, List, [], ◌∷◌, sym, subst, arith}
use Rattle.go_tree.specs.declared.spans.Span.{Span}
use Rattle.go_tree.specs.declared.tokens.Token.{Token}
use Rattle.go_tree.specs.declared.tokens.Comment.{Comment}
use Rattle.go_tree.specs.GoWords.Tokens.{TokensOf}
use Rattle.go_tree.specs.GoWords.Terminals.{Terminal, Lexeme, lex, lexemes}
use Rattle.go_read.specs.SpellsTypes.{Lexemes}
use Rattle.go_read.specs.SpellsSpans.{start_of, span_to}
use Rattle.splice_laws.specs.Replaced.{starts_rise}
use Rattle.splice_laws.proofs.Grafts.{Within, here, later, both_within}
use Rattle.splice_laws.proofs.Rises.{tokens_rise}
use Rattle.splice_laws.proofs.ImportSplices.ImportPlaces.TokensStand.{tokens_stand}
use Rattle.splice_laws.proofs.ImportSplices.ImportPlaces.ImportsStand.{Lie, all_lie, end_before, end_is}

-- the next token begins behind the start of one with this span, and where it ends or later
abbrev pub Behind : Span → Lexemes → Type 0
Behind s [] = Unit {0}
Behind s (lex u x ∷ ts) = (s.start < u.start) × (s.end ≤ u.start)

-- each token begins behind the start of the one before it, and where that ends or later
pub data Rises : Lexemes → Type 0 where
  still : Rises []
  rise : {s : Span} {x : Terminal} {ts : Lexemes} → s.start ≤ s.end → Behind s ts → Rises ts → Rises (lex s x ∷ ts)

-- there are tokens
pub data Full : Lexemes → Type 0 where
  full : {t : Lexeme} {ts : Lexemes} → Full (t ∷ ts)

pub ends-of : {s : Span} {x : Terminal} {ts : Lexemes} → Rises (lex s x ∷ ts) → s.start ≤ s.end
ends-of (rise a b c) = a

pub behind-of : {s : Span} {x : Terminal} {ts : Lexemes} → Rises (lex s x ∷ ts) → Behind s ts
behind-of (rise a b c) = b

pub rest-of : {s : Span} {x : Terminal} {ts : Lexemes} → Rises (lex s x ∷ ts) → Rises ts
rest-of (rise a b c) = c

-- there are tokens before the others
pub data More (r : Lexemes) : Lexemes → Type 0 where
  more : {t : Lexeme} {ts : Lexemes} → Within r ts → More r (t ∷ ts)

-- ---- inequalities

pub lt-le : {a b c : ℕ} → a < b → b ≤ c → a < c
lt-le x y = omega (arith, x, y)

pub le-lt : {a b c : ℕ} → a ≤ b → b < c → a < c
le-lt x y = omega (arith, x, y)

pub le-le : {a b c : ℕ} → a ≤ b → b ≤ c → a ≤ c
le-le x y = omega (arith, x, y)

pub lt-lt : {a b c : ℕ} → a < b → b < c → a < c
lt-lt x y = omega (arith, x, y)

pub as-le : {a b : ℕ} → a < b → a ≤ b
as-le x = omega (arith, x)

pub itself : {a : ℕ} → a ≤ a
itself = omega arith

-- ---- parts of tokens

pub full-more : {r ts : Lexemes} → More r ts → Full ts
full-more (more w) = full

pub full-within : {r ts : Lexemes} → Within r ts → Full r → Full ts
full-within here f = f
full-within (later w) f = full

pub rises-within : {r ts : Lexemes} → Within r ts → Rises ts → Rises r
rises-within here g = g
rises-within (later {t = lex s x} w) g = rises-within w (rest-of g)

pub within-more : {r ts : Lexemes} → More r ts → Within r ts
within-more (more w) = later w

-- tokens before one and what is behind it
pub more-at : {t : Lexeme} {r ts : Lexemes} → Within (t ∷ r) ts → More r ts
more-at here = more here
more-at (later w) = more (less w)
  where
    less : {t : Lexeme} {r ts : Lexemes} → Within (t ∷ r) ts → Within r ts
    less here = later here
    less (later w) = later (less w)

pub more-past : {r mid ts : Lexemes} → Within mid ts → More r mid → More r ts
more-past here m = m
more-past (later w) m = more (both_within (within-more m) w)

pub past-more : {r mid ts : Lexemes} → More mid ts → Within r mid → More r ts
past-more (more w) v = more (both_within v w)

first-behind : (s : Span) (ts : Lexemes) → Full ts → Behind s ts → s.start < start_of ts
first-behind s [] f b = elim f [ ]
first-behind s (lex u y ∷ ts) full b = b.0

first-past : (s : Span) (ts : Lexemes) → Full ts → Behind s ts → s.end ≤ start_of ts
first-past s [] f b = elim f [ ]
first-past s (lex u y ∷ ts) full b = b.1

-- ---- starts

pub starts-up : {r ts : Lexemes} → Within r ts → Rises ts → Full r → start_of ts ≤ start_of r
starts-up here g f = itself
starts-up (later {t = lex s x} {ts = ts} w) g f = le-le (as-le (first-behind s ts (full-within w f) (behind-of g))) (starts-up w (rest-of g) f)

pub starts-behind : {r ts : Lexemes} → More r ts → Rises ts → Full r → start_of ts < start_of r
starts-behind (more {t = lex s x} {ts = ts} w) g f = lt-le (first-behind s ts (full-within w f) (behind-of g)) (starts-up w (rest-of g) f)

-- ---- ends

ends-before : {r ts : Lexemes} (n : ℕ) (w : Within r ts) → Rises ts → Full r → n ≤ start_of ts → end_before n w ≤ start_of r
ends-before n here g f h = h
ends-before n (later {t = lex s x} {ts = ts} w) g f h = ends-before s.end w (rest-of g) f (first-past s ts (full-within w f) (behind-of g))

ends-above : {r ts : Lexemes} (n : ℕ) (w : Within r ts) → Rises ts → n ≤ start_of ts → n ≤ end_before n w
ends-above n here g h = itself
ends-above n (later {t = lex s x} {ts = []} w) g h = le-le h (le-le (ends-of g) (last s.end w))
  where
    last : {r : Lexemes} (m : ℕ) (w : Within r []) → m ≤ end_before m w
    last m here = itself
ends-above n (later {t = lex s x} {ts = lex u y ∷ ts} w) g h = le-le h (le-le (ends-of g) (ends-above s.end w (rest-of g) (behind-of g).1))

-- the part ends where the tokens behind it begin, or before
pub ends-by : {r ts : Lexemes} → More r ts → Rises ts → Full r → (span_to ts r).end ≤ start_of r
ends-by {r = r} (more {t = lex s x} {ts = ts} w) g f = subst (λ (n : ℕ). n ≤ start_of r) (sym (end_is s.start (later {t = lex s x} w))) (ends-before s.end w (rest-of g) f (first-past s ts (full-within w f) (behind-of g)))

-- what is behind what is behind a token
join : {t : Lexeme} {r ys ts : Lexemes} → Within r ys → Within (t ∷ ys) ts → Within r ts
join w here = later w
join w (later v) = later (join w v)

ends-at : (u : Span) (y : Terminal) {r ys ts : Lexemes} (n : ℕ) (w : Within r ys) (v : Within (lex u y ∷ ys) ts) → Rises ts → u.start ≤ end_before n (join w v)
unfolding join
ends-at u y {ys = ys} n w here g = le-le (ends-of g) (above ys w (rest-of g) (behind-of g))
  where
    above : (ys : Lexemes) {r : Lexemes} (w : Within r ys) → Rises ys → Behind u ys → u.end ≤ end_before u.end w
    above [] here g b = itself
    above (lex s x ∷ ts) w g b = ends-above u.end w g b.1
ends-at u y n w (later {t = lex s x} v) g = ends-at u y s.end w v (rest-of g)

-- it ends behind where its last tokens begin
pub ends-behind : {r mid ts : Lexemes} → Within mid ts → More r mid → Rises ts → start_of mid ≤ (span_to ts r).end
ends-behind {ts = ts} v (more {t = lex u y} w) g =
    subst (λ (n : ℕ). u.start ≤ n) (sym (end_is (start_of ts) (join w v))) (ends-at u y (start_of ts) w v g)

-- ---- the tokens of a text

rises-so : (text : List ℕ) (all : List Token) (from : ℕ) (ts : Lexemes) → Lie text all from ts → starts_rise ts → Rises ts
rises-so text all from [] h r = still
rises-so text all from (lex s x ∷ []) h r = rise h.1 tt still
rises-so text all from (lex s x ∷ lex u y ∷ ts) h r = rise h.1 (r.0, h.4.0) (rises-so text all s.end (lex u y ∷ ts) h.4 r.1)

pub tokens-rise : (text : List ℕ) (tokens : List Token) (comments : List Comment) → TokensOf text tokens comments → Rises (lexemes tokens)
tokens-rise text tokens comments t = rises-so text tokens 0 (lexemes tokens) (all_lie text tokens (tokens_stand text tokens comments t)) (tokens_rise text tokens comments t)

-- behind one token
pub step-up : (s : Span) (ts : Lexemes) → Full ts → Behind s ts → s.start ≤ start_of ts
step-up s ts f b = as-le (first-behind s ts f b)
