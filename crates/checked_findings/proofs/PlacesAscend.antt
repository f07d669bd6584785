-- Places of findings ascend where the spans do at which they are found.
use Rattle.std.specs.Prelude.{◌≡◌, refl, ℕ, ◌≤◌, ◌<◌, Bool, true, false, not, ◌&&◌, ◌||◌, List, [], ◌∷◌, ◌++◌}
use Rattle.std.specs.Prelude.{map, Option, Some, None}
use Rattle.std.specs.List.{list_all, list_any}
use mathlib.Core.Path.{ap, sym}
use Rattle.std.proofs.Common.{arith, subst}
use Rattle.std.proofs.lemmas.Bool.Decides.{nat_tests}
use Rattle.go_tree.specs.declared.spans.Span.{Span}
use Rattle.go_tree.specs.File.{Decl}
use Rattle.go_tree.specs.ScopeNames.Means.{Environment}
use Rattle.go_tree.specs.GoTypes.Answers.{meets, distinct_by}
use Rattle.go_tree.specs.GoTypes.Entities.{Entity, World}
use Rattle.expression_spans.specs.Spans.{decl_spans, decls_spans, decl_span}
use Rattle.expression_spans.specs.Order.{is_before, ascends, lies_in, holds_its_own}
use Rattle.checked_findings.specs.Facts.{Facts}
use Rattle.checked_findings.specs.Packages.{declaration_found}
use Rattle.checked_findings.specs.LookUp.{same_span, places_of, all_facts, from_start, as_written}
use Rattle.checked_findings.specs.Laws.{ascend_counted}
use Rattle.checked_findings.proofs.FoundSpans.{At, none, skip, here, decl-at, decls-at}

and_intro : (a b : Bool) → a ≡ true → b ≡ true → (a && b) ≡ true
and_intro true true p q = refl
and_intro true false p q = q
and_intro false b p q = p

and_left : (a b : Bool) → (a && b) ≡ true → a ≡ true
and_left true b e = refl
and_left false b e = e

and_right : (a b : Bool) → (a && b) ≡ true → b ≡ true
and_right true b e = e
and_right false b e = grind arith

-- what holds of all spans holds of the places
all-at : (at : Span → Span) (p q : Span → Bool) → ((s : Span) → p s ≡ true → q (at s) ≡ true) → {fs : Facts Span}
    {ss : List Span} → At at fs ss → list_all p ss ≡ true → list_all q (places_of fs) ≡ true
all-at at p q k none h = refl
all-at at p q k (skip {s = s} {ss = ss} a) h = all-at at p q k a (and_right (p s) (list_all p ss) h)
all-at at p q k (here {f = f} {fs = fs} {s = s} {ss = ss} e a) h =
    and_intro (q f.at) (list_all q (places_of fs))
    (subst (λ t. q t ≡ true) (sym e) (k s (and_left (p s) (list_all p ss) h)))
    (all-at at p q k a (and_right (p s) (list_all p ss) h))

-- both tests hold of all
all-both : (p q : Span → Bool) (ss : List Span) → list_all p ss ≡ true → list_all q ss ≡ true →
    list_all (λ s. p s && q s) ss ≡ true
all-both p q [] a b = refl
all-both p q (s ∷ ss) a b =
    and_intro (p s && q s) (list_all (λ s. p s && q s) ss)
    (and_intro (p s) (q s) (and_left (p s) (list_all p ss) a) (and_left (q s) (list_all q ss) b))
    (all-both p q ss (and_right (p s) (list_all p ss) a) (and_right (q s) (list_all q ss) b))

-- places keep the order of spans that meet a test
abbrev Keeps : (Span → Span) → (Span → Bool) → Type 0
Keeps at p = (s t : Span) → p s ≡ true → p t ≡ true → is_before s t ≡ true → is_before (at s) (at t) ≡ true

ascend-at : (at : Span → Span) (p : Span → Bool) → Keeps at p → {fs : Facts Span} {ss : List Span} → At at fs ss →
    list_all p ss ≡ true → ascends ss ≡ true → ascends (places_of fs) ≡ true
ascend-at at p k none h g = refl
ascend-at at p k (skip {s = s} {ss = ss} a) h g =
    ascend-at at p k a (and_right (p s) (list_all p ss) h) (and_right (list_all (is_before s) ss) (ascends ss) g)
ascend-at at p k (here {f = f} {fs = fs} {s = s} {ss = ss} e a) h g =
    let first = and_left (p s) (list_all p ss) h in
    let rest = and_right (p s) (list_all p ss) h in
    and_intro (list_all (is_before f.at) (places_of fs)) (ascends (places_of fs))
    (subst (λ t. list_all (is_before t) (places_of fs) ≡ true) (sym e)
    (all-at at (λ t. p t && is_before s t) (is_before (at s))
    (λ t b. k s t first (and_left (p t) (is_before s t) b) (and_right (p t) (is_before s t) b)) a
    (all-both p (is_before s) ss rest (and_left (list_all (is_before s) ss) (ascends ss) g))))
    (ascend-at at p k a rest (and_right (list_all (is_before s) ss) (ascends ss) g))

-- ---- as they are written

abbrev each : Span → Bool
each s = true

all-each : (ss : List Span) → list_all each ss ≡ true
all-each [] = refl
all-each (s ∷ ss) = all-each ss

pub written-ascend : {fs : Facts Span} {ss : List Span} → At as_written fs ss → ascends ss ≡ true →
    ascends (places_of fs) ≡ true
written-ascend {ss = ss} a g = ascend-at as_written each (λ s t p q b. b) a (all-each ss) g

-- ---- counted from a start

counted-before : (n : ℕ) (s t : Span) → n ≤ s.start → s.start < s.end → n ≤ t.start → t.start < t.end →
    is_before s t ≡ true → is_before (from_start n s) (from_start n t) ≡ true
counted-before n s t a b c d e = grind (arith, nat_tests, a, b, c, d, e)

inside : (w s : Span) → lies_in w s ≡ true → (w.start ≤ s.start) × (s.start < s.end)
inside w s e = (grind (arith, nat_tests, e), grind (arith, nat_tests, e))

counted-ascend : (w : Span) {fs : Facts Span} {ss : List Span} → At (from_start w.start) fs ss →
    list_all (lies_in w) ss ≡ true → ascends ss ≡ true → ascends (places_of fs) ≡ true
counted-ascend w a h g =
    ascend-at (from_start w.start) (lies_in w)
    (λ s t p q b.
    let i = inside w s p in let j = inside w t q in counted-before w.start s t i.0 i.1 j.0 j.1 b) a h g

-- ---- distinct places

before-differs : (s t : Span) → is_before s t ≡ true → same_span s t ≡ false
before-differs s t e = grind (arith, nat_tests, e)

none-same : (s : Span) (ss : List Span) → list_all (is_before s) ss ≡ true → list_any (same_span s) ss ≡ false
none-same s [] e = refl
none-same s (t ∷ ss) e =
    neither (same_span s t) (list_any (same_span s) ss)
    (before-differs s t (and_left (is_before s t) (list_all (is_before s) ss) e))
    (none-same s ss (and_right (is_before s t) (list_all (is_before s) ss) e))
  where
    neither : (a b : Bool) → a ≡ false → b ≡ false → (a || b) ≡ false
    neither true b p q = p
    neither false b p q = q

pub ascend-distinct : (ss : List Span) → ascends ss ≡ true → distinct_by same_span ss ≡ true
ascend-distinct [] e = refl
ascend-distinct (s ∷ ss) e =
    and_intro (not (list_any (same_span s) ss)) (distinct_by same_span ss)
    (ap not (none-same s ss (and_left (list_all (is_before s) ss) (ascends ss) e)))
    (ascend-distinct ss (and_right (list_all (is_before s) ss) (ascends ss) e))

-- ---- declarations of a file

all-front : (p : Span → Bool) (ss ts : List Span) → list_all p (ss ++ ts) ≡ true → list_all p ss ≡ true
all-front p [] ts e = refl
all-front p (s ∷ ss) ts e =
    and_intro (p s) (list_all p ss) (and_left (p s) (list_all p (ss ++ ts)) e)
    (all-front p ss ts (and_right (p s) (list_all p (ss ++ ts)) e))

front-ascends : (ss ts : List Span) → ascends (ss ++ ts) ≡ true → ascends ss ≡ true
front-ascends [] ts e = refl
front-ascends (s ∷ ss) ts e =
    let more : List Span = ss ++ ts in
    and_intro (list_all (is_before s) ss) (ascends ss)
    (all-front (is_before s) ss ts (and_left (list_all (is_before s) more) (ascends more) e))
    (front-ascends ss ts (and_right (list_all (is_before s) more) (ascends more) e))

rest-ascends : (ss ts : List Span) → ascends (ss ++ ts) ≡ true → ascends ts ≡ true
rest-ascends [] ts e = e
rest-ascends (s ∷ ss) ts e =
    rest-ascends ss ts (and_right (list_all (is_before s) (ss ++ ts)) (ascends (ss ++ ts)) e)

one-counted : (o : Option Span) (ss : List Span) (fs : Span → Facts Span) →
    ((w : Span) → At (from_start w.start) (fs w) ss) → ascends ss ≡ true → meets o (λ w. list_all (lies_in w) ss) ≡ true →
    meets o (λ w. ascends (places_of (fs w))) ≡ true
one-counted None ss fs k g h = h
one-counted (Some w) ss fs k g h = counted-ascend w (k w) h g

pub each-counted : (w : World) (home : ℕ) (imports : Environment Entity) (ds : List (Decl Span)) →
    list_all holds_its_own ds ≡ true → ascends (decls_spans ds) ≡ true →
    list_all (ascend_counted w home imports) ds ≡ true
each-counted w home imports [] h g = refl
each-counted w home imports (d ∷ ds) h g =
    and_intro (ascend_counted w home imports d) (list_all (ascend_counted w home imports) ds)
    (one-counted (decl_span d) (decl_spans d) (λ v. declaration_found (from_start v.start) w home imports d)
    (λ v. decl-at (from_start v.start) w home imports d) (front-ascends (decl_spans d) (decls_spans ds) g)
    (and_left (holds_its_own d) (list_all holds_its_own ds) h))
    (each-counted w home imports ds (and_right (holds_its_own d) (list_all holds_its_own ds) h)
    (rest-ascends (decl_spans d) (decls_spans ds) g))

pub file-ascends : (w : World) (home : ℕ) (imports : Environment Entity) (ds : List (Decl Span)) →
    ascends (decls_spans ds) ≡ true →
    ascends (places_of (all_facts (map (declaration_found as_written w home imports) ds))) ≡ true
file-ascends w home imports ds g = written-ascend (decls-at as_written w home imports ds) g
