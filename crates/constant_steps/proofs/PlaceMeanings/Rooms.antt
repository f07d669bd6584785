-- Tokens before others, and two bytes between which they stand.
use Rattle.std.proofs.Common.{◌≡◌, ◌≤◌, ◌<◌, ℕ, List, [], ◌∷◌, refl, sym, subst, ◌∙◌, arith}
use Rattle.go_tree.specs.declared.spans.Span.{Span}
use Rattle.go_tree.specs.declared.tokens.Token.{Token}
use Rattle.go_tree.specs.GoWords.Terminals.{Terminal, lex, semicolon}
use Rattle.go_read.specs.SpellsTypes.{Lexemes}
use Rattle.go_read.specs.SpellsSpans.{span_to}
use Rattle.splice_laws.proofs.Grafts.{Within, here, later, both_within}
use Rattle.splice_laws.proofs.ImportSplices.ImportPlaces.ImportsStand.{IsWord, Lie, end_before, end_is}
use Rattle.constant_steps.proofs.PlaceMeanings.Nested.{Lies}

-- the tokens stand in their order from a byte on; none but an inserted semicolon is empty
abbrev pub Rises : ℕ → Lexemes → Type 0
Rises lo [] = Unit {0}
Rises lo (lex s x ∷ ts) = (lo ≤ s.start) × (s.start ≤ s.end) × ((x ≡ semicolon → ⊥) → s.start < s.end) × Rises s.end ts

pub rises_of : (text : List ℕ) (all : List Token) (lo : ℕ) (ts : Lexemes) → Lie text all lo ts → Rises lo ts
rises_of text all lo [] h = tt
rises_of text all lo (lex s x ∷ ts) h = (h.0, h.1, (λ other. filled (h.3 other)), rises_of text all s.end ts h.4)
  where
    filled : IsWord text all s x → s.start < s.end
    filled w = w.inked.0

lower : (m n : ℕ) (ts : Lexemes) → m ≤ n → Rises n ts → Rises m ts
lower m n [] le h = tt
lower m n (lex s x ∷ ts) le h = (omega (arith, le, h.0), h.1, h.2, h.3)

rises_past : {r ts : Lexemes} (n : ℕ) (w : Within r ts) → Rises n ts → Rises (end_before n w) r
rises_past n here h = h
rises_past n (later {t = lex s x} w) h = rises_past s.end w h.3

ends_up : {r ts : Lexemes} (n : ℕ) (w : Within r ts) → Rises n ts → n ≤ end_before n w
ends_up n here h = omega arith
ends_up n (later {t = lex s x} w) h = let k = ends_up s.end w h.3 in omega (arith, h.0, h.1, k)

same_end : {r ts : Lexemes} (n : ℕ) (v w : Within r ts) → end_before n v ≡ end_before n w
same_end n v w = sym (end_is n v) ∙ end_is n w

-- tokens before others, and those before these
abbrev chained : {vs us ts : Lexemes} → Within vs us → Within us ts → Within vs ts
chained x here = x
chained x (later {t = t} y) = later {t = t} (chained x y)

end_both : {vs us ts : Lexemes} (n : ℕ) (x : Within vs us) (y : Within us ts) → end_before n (chained x y) ≡ end_before (end_before n y) x
end_both n x here = refl
end_both n x (later {t = lex s k} y) = end_both s.end x y

ends_rise : {r ts : Lexemes} (m n : ℕ) (w : Within r ts) → m ≤ n → end_before m w ≤ end_before n w
ends_rise m n here le = le
ends_rise m n (later {t = lex s x} w) le = omega arith

-- the tokens before `r` stand between these bytes
pub record Room (lo hi : ℕ) (ts r : Lexemes) : Type 0 where
  pub rises : Rises lo ts
  pub within : Within r ts
  pub ends : end_before lo within ≤ hi

-- the tokens before others among them, and those from there on
pub record Halves (lo hi : ℕ) (ts mid r : Lexemes) : Type 0 where
  pub at : ℕ
  pub from : lo ≤ at
  pub to : at ≤ hi
  pub left : Room lo at ts mid
  pub right : Room at hi mid r

pub cut : {lo hi : ℕ} {ts mid r : Lexemes} → Room lo hi ts r → Within mid ts → Within r mid → Halves lo hi ts mid r
cut {lo = lo} {hi = hi} m w v =
    let ends : end_before (end_before lo w) v ≤ hi = subst (λ (n : ℕ). n ≤ hi) (same_end lo m.within (chained v w) ∙ end_both lo v w) m.ends in
    let rest = rises_past lo w m.rises in
    record {
      at = end_before lo w;
      from = ends_up lo w m.rises;
      to = let k = ends_up (end_before lo w) v rest in omega (arith, k, ends);
      left = record { rises = m.rises; within = w; ends = omega arith };
      right = record { rises = rest; within = v; ends = ends };
    }

-- between other bytes around these
pub opened : {lo hi : ℕ} {ts r : Lexemes} (lo2 hi2 : ℕ) → Room lo hi ts r → lo2 ≤ lo → hi ≤ hi2 → Room lo2 hi2 ts r
opened {lo = lo} {hi = hi} {ts = ts} lo2 hi2 m a b =
    record { rises = lower lo2 lo ts a m.rises; within = m.within; ends = let k = ends_rise lo2 lo m.within a in omega (arith, k, m.ends, b) }

pub lowered : {lo hi : ℕ} {ts r : Lexemes} (lo2 : ℕ) → Room lo hi ts r → lo2 ≤ lo → Room lo2 hi ts r
lowered {hi = hi} lo2 m a = opened lo2 hi m a (omega arith)

-- tokens that rise have room
pub record Roomy (lo : ℕ) (ts r : Lexemes) : Type 0 where
  pub hi : ℕ
  pub room : Room lo hi ts r

pub room_of : {lo : ℕ} {ts r : Lexemes} → Rises lo ts → Within r ts → Roomy lo ts r
room_of {lo = lo} h w = record { hi = end_before lo w; room = record { rises = h; within = w; ends = omega arith } }

-- the first of two parts, and the second, each between the bytes of both
pub before : {lo hi : ℕ} {ts mid r : Lexemes} → Room lo hi ts r → Within mid ts → Within r mid → Room lo hi ts mid
before {lo = lo} {hi = hi} m w v = let c = cut m w v in opened lo hi c.left (omega arith) c.to

pub behind : {lo hi : ℕ} {ts mid r : Lexemes} → Room lo hi ts r → Within mid ts → Within r mid → Room lo hi mid r
behind {lo = lo} {hi = hi} m w v = let c = cut m w v in opened lo hi c.right c.from (omega arith)

-- behind the first token
pub beyond : {lo hi : ℕ} {s : Span} {x : Terminal} {ts r : Lexemes} → Room lo hi (lex s x ∷ ts) r → Within r ts → Room s.end hi ts r
beyond {lo = lo} {hi = hi} {s = s} {x = x} m w =
    record { rises = m.rises.3; within = w; ends = subst (λ (n : ℕ). n ≤ hi) (same_end lo m.within (later {t = lex s x} w)) m.ends }

pub skip : {lo hi : ℕ} {s : Span} {x : Terminal} {ts r : Lexemes} → Room lo hi (lex s x ∷ ts) r → Within r ts → Room lo hi ts r
skip {lo = lo} {hi = hi} {s = s} m w = opened lo hi (beyond m w) (omega (arith, m.rises.0, m.rises.1)) (omega arith)

pub high : {lo hi : ℕ} {ts r : Lexemes} → Room lo hi ts r → lo ≤ hi
high {lo = lo} m = let k = ends_up lo m.within m.rises in omega (arith, k, m.ends)

-- ---- parts that aren't empty

-- there is a first token, and it is no semicolon
pub data Begins (r : Lexemes) : Lexemes → Type 0 where
  begins : {s : Span} {x : Terminal} {ts : Lexemes} → (x ≡ semicolon → ⊥) → Within r ts → Begins r (lex s x ∷ ts)

pub begins_past : {r mid ts : Lexemes} → Begins mid ts → Within r mid → Begins r ts
begins_past (begins other w) v = begins other (both_within v w)

-- the span of tokens lies where they stand, and they stand in it
pub record Raised (lo hi : ℕ) (ts r : Lexemes) : Type 0 where
  pub lies : Lies lo hi (span_to ts r)
  pub room : Room (span_to ts r).start (span_to ts r).end ts r

pub raise : {lo hi : ℕ} {ts r : Lexemes} → Room lo hi ts r → Begins r ts → Raised lo hi ts r
raise {lo = lo} {hi = hi} {r = r} m (begins {s = s} {x = x} {ts = ts} other w) =
    let v : Within r (lex s x ∷ ts) = later w in
    let e : (span_to (lex s x ∷ ts) r).end ≡ end_before s.end w = end_is s.start v in
    let up : s.end ≤ end_before s.end w = ends_up s.end w m.rises.3 in
    let to : end_before s.end w ≤ hi = subst (λ (n : ℕ). n ≤ hi) (same_end lo m.within v) m.ends in
    record {
      lies = record { from = m.rises.0; filled = let f = m.rises.2 other in omega (arith, f, up, e); to = omega (arith, e, to) };
      room = record { rises = (omega arith, m.rises.1, m.rises.2, m.rises.3); within = v; ends = omega (arith, e) };
    }
