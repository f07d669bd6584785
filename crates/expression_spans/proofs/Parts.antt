-- How the spans of a part stand among its tokens, by those of its parts.
use Rattle.std.proofs.Common.{◌≡◌, ◌<◌, ◌≤◌, inl, inr, ℕ, true, false, List, [], ◌∷◌, ◌++◌, refl, sym, subst}
use Rattle.std.proofs.Common.{arith, append-nil}
use Rattle.go_tree.specs.declared.spans.Span.{Span}
use Rattle.go_tree.specs.declared.operators.UnOp.{UnOp}
use Rattle.go_tree.specs.declared.operators.UnOp.TheVariants.{Plus, Minus, Not, Flip, Address}
use Rattle.go_tree.specs.GoWords.Terminals.{Terminal, lex, semicolon, unary_sign}
use Rattle.go_read.specs.SpellsTypes.{Lexemes}
use Rattle.go_read.specs.SpellsSpans.{start_of, span_to}
use Rattle.go_read.specs.Spells.{starts_type}
use Rattle.go_read.proofs.Suffixes.{Suffix, whole, after}
use Rattle.expression_spans.proofs.TokensLie.{is_semicolon, Behind, Lie, size-of, byte-of, behind-of, rest-of, Full, full}
use Rattle.expression_spans.proofs.TokensLie.{More, more, onto, skip, full-more, full-on, lie-on, as-suffix, more-at}
use Rattle.expression_spans.proofs.TokensLie.{more-past, le-le, le-lt, as-le, itself, starts-up}
use Rattle.expression_spans.proofs.TokensLie.{starts-past, end_before, end_is, ends-by, ends-at, ends-with}
use Rattle.expression_spans.proofs.Ascents.{place, Stand, empty, both, lower, further, past, own}

-- the spans of an expression, up to its own
pub record Op (xs : List Span) (ts r : Lexemes) : Type 0 where
  pub has : More r ts
  pub byte : start_of ts < (span_to ts r).end
  pub stand : Stand (start_of ts) xs (span_to ts r)

-- the spans in a part, up to its end
pub record Ends (xs : List Span) (ts r : Lexemes) : Type 0 where
  pub has : More r ts
  pub stand : Stand (start_of ts) xs (place (span_to ts r).end)

-- the spans in a part, up to the token that closes it
pub record Closed (xs : List Span) (ts r : Lexemes) : Type 0 where
  pub close : Span
  pub word : Terminal
  pub written : is_semicolon word ≡ false
  pub upto : Suffix (lex close word ∷ r) ts
  pub stand : Stand (start_of ts) xs (place close.start)

-- the spans in a part, up to what is behind it
abbrev pub To : List Span → Lexemes → Lexemes → Type 0
To xs ts r = Stand (start_of ts) xs (place (start_of r))

-- ---- by the list of spans

pub ends-nil : {xs : List Span} {ts r : Lexemes} → Ends xs ts r → Ends (xs ++ []) ts r
ends-nil {xs} {ts} {r} a = subst (λ (zs : List Span). Ends zs ts r) (sym (append-nil xs)) a

pub none-to : {n : ℕ} → Stand n [] (place n)
none-to = empty itself

-- ---- tokens between

-- the token in the middle begins where what is behind it does, or before
pub gap : (c : Span) {x : Terminal} {mid ts : Lexemes} → Suffix (lex c x ∷ mid) ts → Lie ts → Full mid →
    c.start ≤ start_of mid
gap c a g f = starts-up (after whole) (lie-on a g) f

-- a part behind a token
pub behind-one : {s : Span} {x : Terminal} {us : Lexemes} {xs : List Span} {q : Span} → Lie (lex s x ∷ us) → Full us →
    Stand (start_of us) xs q → Stand s.start xs q
behind-one g f a = lower (starts-up (after whole) g f) a

-- a part before a token
pub before-one : (c : Span) {x : Terminal} {lo : ℕ} {xs : List Span} {ts r : Lexemes} → Suffix (lex c x ∷ r) ts →
    Lie ts → Full r → Stand lo xs (place c.start) → Stand lo xs (place (start_of r))
before-one c a g f q = past (gap c a g f) q

-- a part, a token and a part
pub two : {c : Span} {x : Terminal} {lo : ℕ} {mid ts : Lexemes} {xs ys : List Span} {q : Span} →
    Suffix (lex c x ∷ mid) ts → Lie ts → Full mid → Stand lo xs (place c.start) → Stand (start_of mid) ys q →
    Stand lo (xs ++ ys) q
two {c = c} a g f p q = both (gap c a g f) p q

-- a part and a part
pub next : {lo n : ℕ} {xs ys : List Span} {q : Span} → Stand lo xs (place n) → Stand n ys q → Stand lo (xs ++ ys) q
next p q = both itself p q

-- ---- from one form to another

pub op-ends : {xs : List Span} {ts r : Lexemes} → Op xs ts r → Ends xs ts r
op-ends {ts = ts} {r = r} a = record { has = a.has; stand = past {n = (span_to ts r).end} {q = span_to ts r} itself a.stand }

pub ends-to : {xs : List Span} {ts r : Lexemes} → Lie ts → Full r → Ends xs ts r → To xs ts r
ends-to {ts = ts} {r = r} g f a =
    past {n = start_of r} {q = place (span_to ts r).end} (ends-by a.has g f) a.stand

pub op-to : {xs : List Span} {ts r : Lexemes} → Lie ts → Full r → Op xs ts r → To xs ts r
op-to g f a = ends-to g f (op-ends a)

pub closed-to : {xs : List Span} {ts r : Lexemes} → Lie ts → Full r → Closed xs ts r → To xs ts r
closed-to g f a = before-one a.close a.upto g f a.stand

pub closed-ends : {xs : List Span} {ts r : Lexemes} → Lie ts → Closed xs ts r → Ends xs ts r
closed-ends {ts = ts} {r = r} g a =
    let size : a.close.start ≤ a.close.end = size-of (lie-on a.upto g) in
    let e : (span_to ts r).end ≡ a.close.end = ends-at a.close a.word a.upto in
    record {
      has = more-at a.upto;
      stand = past {n = (span_to ts r).end} {q = place a.close.start} (omega (arith, size, e)) a.stand;
    }

-- what stands behind other tokens
pub ends-on : {xs : List Span} {mid ts r : Lexemes} → Suffix mid ts → Lie ts → Ends xs mid r → Ends xs ts r
ends-on {mid = mid} {ts = ts} {r = r} v g a =
    let e : (span_to ts r).end ≡ (span_to mid r).end = ends-with v a.has in
    record {
      has = more-past v a.has;
      stand = past {n = (span_to ts r).end} {q = place (span_to mid r).end} (omega (arith, e))
          (lower (starts-up v g (full-more a.has)) a.stand);
    }

pub closed-on : {xs : List Span} {mid ts r : Lexemes} → Suffix mid ts → Lie ts → Closed xs mid r → Closed xs ts r
closed-on v g a =
    record {
      close = a.close;
      word = a.word;
      written = a.written;
      upto = onto a.upto v;
      stand = lower (starts-up v g (full-on a.upto full)) a.stand;
    }

ends-above : (s : Span) {r us : Lexemes} (w : Suffix r us) → Lie us → Behind s us → s.end ≤ end_before s.end w
ends-above s whole g b = itself
ends-above s (after {x = lex u y} w) g b =
    le-le b (le-le (size-of g) (ends-above u w (rest-of g) (behind-of g)))

-- the first token ends by the end
first-end : (s : Span) (x : Terminal) {us r : Lexemes} → Suffix r us → Lie (lex s x ∷ us) →
    s.end ≤ (span_to (lex s x ∷ us) r).end
first-end s x w g =
    subst (λ (n : ℕ). s.end ≤ n) (sym (end_is s.start (after {x = lex s x} w)))
    (ends-above s w (rest-of g) (behind-of g))

-- a part without expressions
pub no-ends : {ts r : Lexemes} → More r ts → Lie ts → Ends [] ts r
no-ends (more {t = lex s x} w) g =
    record { has = more w; stand = empty (le-le (size-of g) (first-end s x w g)) }

-- up to the end of the last part, behind other tokens
pub ends-up : {lo : ℕ} {xs : List Span} {mid ts r : Lexemes} → Suffix mid ts → More r mid →
    Stand lo xs (place (span_to mid r).end) → Stand lo xs (place (span_to ts r).end)
ends-up {mid = mid} {ts = ts} {r = r} v m a =
    let e : (span_to ts r).end ≡ (span_to mid r).end = ends-with v m in
    past {n = (span_to ts r).end} {q = place (span_to mid r).end} (omega (arith, e)) a

-- a first token, and a part
pub tail : {s : Span} {x : Terminal} {xs : List Span} {us r : Lexemes} → Lie (lex s x ∷ us) → Full r → Ends xs us r →
    To xs (lex s x ∷ us) r
tail g f a = behind-one g (full-more a.has) (ends-to (rest-of g) f a)

-- ---- expressions

-- a token alone
pub leaf : (s : Span) (x : Terminal) {r : Lexemes} → is_semicolon x ≡ false → Lie (lex s x ∷ r) →
    Op (span_to (lex s x ∷ r) r ∷ []) (lex s x ∷ r) r
leaf s x {r} e g =
    let at : (span_to (lex s x ∷ r) r).end ≡ s.end = ends-at s x {r = r} whole in
    let long = byte-of g e in
    let byte : s.start < (span_to (lex s x ∷ r) r).end = omega (arith, at, long) in
    record {
      has = more whole;
      byte = byte;
      stand = own {lo = s.start} {xs = []} {q = place s.start} (span_to (lex s x ∷ r) r) (inl byte) itself byte
          (empty itself);
    }

-- parts and a token that closes them
pub closing : {xs : List Span} {ts r : Lexemes} → Lie ts → Closed xs ts r → Op (xs ++ span_to ts r ∷ []) ts r
closing {xs} {ts} {r} g a =
    let at : (span_to ts r).end ≡ a.close.end = ends-at a.close a.word a.upto in
    let long = byte-of (lie-on a.upto g) a.written in
    let up : start_of ts ≤ a.close.start = starts-up a.upto g full in
    let byte : start_of ts < (span_to ts r).end = omega (arith, at, long, up) in
    let behind : a.close.start < (span_to ts r).end = omega (arith, at, long) in
    record {
      has = more-at a.upto;
      byte = byte;
      stand = own {q = place a.close.start} (span_to ts r) (inl behind) itself byte a.stand;
    }

-- a token and a part
pub late : {s : Span} {x : Terminal} {xs : List Span} {us r : Lexemes} → is_semicolon x ≡ false →
    Lie (lex s x ∷ us) → Op xs us r → Op (xs ++ span_to (lex s x ∷ us) r ∷ []) (lex s x ∷ us) r
late {s} {x} {xs} {us} {r} e g a =
    let at : (span_to (lex s x ∷ us) r).end ≡ (span_to us r).end = ends-with (after whole) a.has in
    let up : s.start < start_of us = starts-past s x e g (full-more a.has) in
    let long = a.byte in
    let byte : s.start < (span_to (lex s x ∷ us) r).end = omega (arith, at, up, long) in
    record {
      has = more (as-suffix a.has);
      byte = byte;
      stand = own {q = span_to us r} (span_to (lex s x ∷ us) r) (inr (sym at, up)) itself byte
          (lower (as-le up) a.stand);
    }

-- a part, a token and a part
pub between : {c : Span} {x : Terminal} {xs ys : List Span} {mid ts r : Lexemes} → is_semicolon x ≡ false →
    Suffix (lex c x ∷ mid) ts → Lie ts → Op xs ts (lex c x ∷ mid) → Op ys mid r →
    Op ((xs ++ ys) ++ span_to ts r ∷ []) ts r
between {c} {x} {xs} {ys} {mid} {ts} {r} e v g a b =
    let at : (span_to ts r).end ≡ (span_to mid r).end = ends-with (skip v) b.has in
    let past-it : c.start < start_of mid = starts-past c x e (lie-on v g) (full-more b.has) in
    let first : start_of ts ≤ c.start = starts-up v g full in
    let up : start_of ts < start_of mid = le-lt first past-it in
    let long = b.byte in
    let byte : start_of ts < (span_to ts r).end = omega (arith, at, up, long) in
    record {
      has = more-past (skip v) b.has;
      byte = byte;
      stand = own {q = span_to mid r} (span_to ts r) (inr (sym at, up)) itself byte
          (both (as-le past-it) (op-to g full a) b.stand);
    }

-- a part in parentheses
pub within : {s c : Span} {x y : Terminal} {xs : List Span} {us r : Lexemes} → is_semicolon y ≡ false →
    Suffix (lex c y ∷ r) us → Lie (lex s x ∷ us) → Op xs us (lex c y ∷ r) → Op xs (lex s x ∷ us) r
within {s} {c} {x} {y} {xs} {us} {r} e v g a =
    let at : (span_to (lex s x ∷ us) r).end ≡ c.end = ends-at c y (after {x = lex s x} v) in
    let by : (span_to us (lex c y ∷ r)).end ≤ c.start = ends-by a.has (rest-of g) full in
    let long = byte-of (lie-on v (rest-of g)) e in
    let up : s.start ≤ start_of us = starts-up (after whole) g (full-more a.has) in
    let some = a.byte in
    let upto : (span_to us (lex c y ∷ r)).end < (span_to (lex s x ∷ us) r).end = omega (arith, at, by, long) in
    record {
      has = more (skip v);
      byte = omega (arith, at, by, long, up, some);
      stand = further {q = span_to us (lex c y ∷ r)} {b = span_to (lex s x ∷ us) r} (inl upto) (lower up a.stand);
    }

-- a type where an expression stands
starts-plain : (s : Span) (x : Terminal) (us : Lexemes) → starts_type (lex s x ∷ us) ≡ true → is_semicolon x ≡ false
starts-plain s semicolon us e = absurd cc
starts-plain s x us e = refl

pub a-type : {ts r : Lexemes} → starts_type ts ≡ true → More r ts → Lie ts → Op (span_to ts r ∷ []) ts r
a-type {r = r} e (more {t = lex s x} {ts = us} w) g =
    let long = byte-of g (starts-plain s x us e) in
    let by = first-end s x w g in
    let byte : s.start < (span_to (lex s x ∷ us) r).end = omega (arith, long, by) in
    record {
      has = more w;
      byte = byte;
      stand = own {lo = s.start} {xs = []} {q = place s.start} (span_to (lex s x ∷ us) r) (inl byte) itself byte
          (empty itself);
    }

-- no sign is a semicolon
pub sign-plain : (o : UnOp) → is_semicolon (unary_sign o) ≡ false
sign-plain Plus = refl
sign-plain Minus = refl
sign-plain Not = refl
sign-plain Flip = refl
sign-plain Address = refl
