-- Where parts of tokens end, in tokens that stand one behind the other and aren't empty, but for semicolons.
use Rattle.std.proofs.Common.{◌≡◌, refl, sym, subst, ◌∙◌, ◌<◌, ◌≤◌, ℕ, List, [], ◌∷◌, arith}
use Rattle.go_tree.specs.declared.spans.Span.{Span}
use Rattle.go_tree.specs.declared.tokens.Token.{Token}
use Rattle.go_tree.specs.declared.tokens.Comment.{Comment}
use Rattle.go_tree.specs.GoWords.Tokens.{TokensOf}
use Rattle.go_tree.specs.GoWords.Terminals.{Terminal, Lexeme, lex, semicolon, lexemes}
use Rattle.go_read.specs.SpellsTypes.{Lexemes}
use Rattle.go_read.specs.SpellsSpans.{start_of, span_to}
use Rattle.splice_laws.proofs.Grafts.{Within, here, later, drop}
use Rattle.splice_laws.proofs.ImportSplices.ImportPlaces.TokensStand.{tokens_stand}
use Rattle.splice_laws.proofs.ImportSplices.ImportPlaces.ImportsStand.{Lie, all_lie, end_before, end_is}
use Rattle.order_runs.proofs.RunSteps.TokenPlaces.{Behind, Rises, Full, full, behind-of, More, more, le-le, itself, full-within, rises-within, more-at, starts-up, ends-by, tokens-rise, step-up}
use Rattle.order_runs.proofs.RunSteps.TokenPlaces as places
use Rattle.order_runs.proofs.RunSteps.SpanPlaces.{One, Two, one-in, wider}
use Rattle.run_order.proofs.EndPlaces.{Ends, Closed}

-- ---- tokens that aren't empty

abbrev pub Solid : Lexemes → Type 0
Solid [] = Unit {0}
Solid (lex s x ∷ ts) = ((x ≡ semicolon → ⊥) → s.start < s.end) × Solid ts

-- tokens one behind the other, none empty but for semicolons
pub record Stands (ts : Lexemes) : Type 0 where
  pub rises : Rises ts
  pub solid : Solid ts

pub rest-of : {s : Span} {x : Terminal} {ts : Lexemes} → Stands (lex s x ∷ ts) → Stands ts
rest-of g = record { rises = places.rest-of g.rises; solid = g.solid.1 }

pub behind-first : {s : Span} {x : Terminal} {ts : Lexemes} → Stands (lex s x ∷ ts) → Behind s ts
behind-first g = behind-of g.rises

solid-within : {r ts : Lexemes} → Within r ts → Solid ts → Solid r
solid-within here g = g
solid-within (later {t = lex s x} w) g = solid-within w g.1

pub stands-within : {r ts : Lexemes} → Within r ts → Stands ts → Stands r
stands-within w g = record { rises = rises-within w g.rises; solid = solid-within w g.solid }

solid-so : (text : List ℕ) (all : List Token) (from : ℕ) (ts : Lexemes) → Lie text all from ts → Solid ts
solid-so text all from [] h = tt
solid-so text all from (lex s x ∷ ts) h = ((λ other. (h.3 other).inked.0), solid-so text all s.end ts h.4)

-- so are the tokens of a text
pub tokens-stand : (text : List ℕ) (tokens : List Token) (comments : List Comment) → TokensOf text tokens comments
    → Stands (lexemes tokens)
tokens-stand text tokens comments t = record { rises = tokens-rise text tokens comments t; solid = solid-so text tokens 0 (lexemes tokens) (all_lie text tokens (tokens_stand text tokens comments t)) }

-- ---- ends

-- behind the first of the tokens
abbrev past : {t : Lexeme} {r ts : Lexemes} → Within (t ∷ r) ts → Within r ts
past here = later here
past (later w) = later (past w)

-- a part ends where its last token does
last-before : {s : Span} {x : Terminal} {r ts : Lexemes} (n : ℕ) (w : Within (lex s x ∷ r) ts)
    → end_before n (past w) ≡ s.end
last-before n here = refl
last-before n (later {t = lex u y} w) = last-before u.end w

last-end : {s : Span} {x : Terminal} {r ts : Lexemes} → Within (lex s x ∷ r) ts → (span_to ts r).end ≡ s.end
last-end {ts = ts} w = end_is (start_of ts) (past w) ∙ last-before (start_of ts) w

first-least : {t : Lexeme} {r ts : Lexemes} → Within (t ∷ r) ts → Stands ts → start_of ts ≤ start_of (t ∷ r)
first-least w g = starts-up w g.rises full

-- the last token isn't empty
last-solid : {s : Span} {x : Terminal} {r ts : Lexemes} → Within (lex s x ∷ r) ts → Stands ts → (x ≡ semicolon → ⊥)
    → s.start < (span_to ts r).end
last-solid {s = s} {r = r} {ts = ts} w g other = subst (λ (n : ℕ). s.start < n) (sym (last-end w)) ((solid-within w g.solid).0 other)

pub ends-at : {s : Span} {x : Terminal} {r ts : Lexemes} → Within (lex s x ∷ r) ts → Stands ts → Full r
    → (x ≡ semicolon → ⊥) → Ends (start_of ts) (start_of r) (span_to ts r)
ends-at w g f other = let a = first-least w g in let b = last-solid w g other in (omega (arith, a, b), ends-by (more-at w) g.rises f)

-- what ends where the last token begins ends before it does
pub closed : {Q : ℕ → ℕ → Type 0} {s : Span} {x : Terminal} {r ts : Lexemes} → Within (lex s x ∷ r) ts → Stands ts
    → Full r → (x ≡ semicolon → ⊥) → Q (start_of ts) s.start → Closed (span_to ts r) (start_of ts) (start_of r) Q
closed {s = s} w g f other q = record { upto = s.start; before = last-solid w g other; ends = ends-at w g f other; it = q }

-- ---- places by tokens

pub exact : {lo hi : ℕ} {Q : ℕ → ℕ → Type 0} → Q lo hi → One lo hi Q
exact q = one-in itself itself q

-- a part, a token and a part
pub two : {Q R : ℕ → ℕ → Type 0} {x : Lexeme} {mid ts r : Lexemes} → Within (x ∷ mid) ts → Within r mid → Stands ts
    → Full r → Q (start_of ts) (start_of (x ∷ mid)) → R (start_of mid) (start_of r)
    → Two (start_of ts) (start_of r) Q R
two {x = x} {mid = mid} {ts = ts} {r = r} a e g f p q =
    let ga : Rises (x ∷ mid) = rises-within a g.rises in
    let fm : Full mid = full-within e f in
    record { mid = start_of (x ∷ mid); next = start_of mid; up = starts-up a g.rises full; below = starts-up (later e) ga f; apart = starts-up (later here) ga fm; above = starts-up (drop a) g.rises fm; one = p; two = q }

-- a part and a part
pub next : {Q R : ℕ → ℕ → Type 0} {mid ts r : Lexemes} → Within mid ts → Within r mid → Stands ts → Full r
    → Q (start_of ts) (start_of mid) → R (start_of mid) (start_of r) → Two (start_of ts) (start_of r) Q R
next {mid = mid} {ts = ts} {r = r} a e g f p q =
    let fm : Full mid = full-within e f in
    record { mid = start_of mid; next = start_of mid; up = starts-up a g.rises fm; below = starts-up e (rises-within a g.rises) f; apart = itself; above = starts-up a g.rises fm; one = p; two = q }

-- behind a first token
pub behind-one : {Q : ℕ → ℕ → Type 0} {hi : ℕ} {s : Span} {x : Terminal} {ts : Lexemes} → Stands (lex s x ∷ ts)
    → Full ts → One (start_of ts) hi Q → One s.start hi Q
behind-one {s = s} {ts = ts} g f q = wider (step-up s ts f (behind-first g)) itself q

-- before a last token
pub before-one : {Q : ℕ → ℕ → Type 0} {x : Lexeme} {ts r : Lexemes} → Within (x ∷ r) ts → Stands ts → Full r
    → One (start_of ts) (start_of (x ∷ r)) Q → One (start_of ts) (start_of r) Q
before-one a g f q = wider itself (starts-up (later here) (rises-within a g.rises) f) q

-- further in
pub within-one : {Q : ℕ → ℕ → Type 0} {hi : ℕ} {mid ts : Lexemes} → Within mid ts → Stands ts → Full mid
    → One (start_of mid) hi Q → One (start_of ts) hi Q
within-one w g f q = wider (starts-up w g.rises f) itself q
