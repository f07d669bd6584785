-- Findings of which no two have one place are each found at their place.
use Rattle.std.specs.Prelude.{◌≡◌, refl, Bool, true, false, not, ◌&&◌, ◌||◌, List, ◌∷◌, Option, Some, if◌then◌else◌}
use Rattle.std.specs.List.{list_any}
use mathlib.Core.Path.{ap, sym, ◌∙◌}
use Rattle.std.proofs.Common.{arith}
use Rattle.std.proofs.lemmas.Cmp.{nat_eq_equiv}
use Rattle.go_tree.specs.declared.spans.Span.{Span}
use Rattle.checked_findings.specs.Facts.{Fact, Facts}
use Rattle.checked_findings.specs.LookUp.{same_span, fact_at, places_of, places_distinct}
use Rattle.checked_findings.specs.Laws.{Among, first, later}

clash : {A : Type 0} → false ≡ true → A
clash e = grind arith

and_right : (x y : Bool) → (x && y) ≡ true → y ≡ true
and_right true y e = e
and_right false y e = clash e

or_right : (x : Bool) {y : Bool} → y ≡ true → (x || y) ≡ true
or_right true e = refl
or_right false e = e

same_itself : (s : Span) → same_span s s ≡ true
same_itself s = λ w. nat_eq_equiv.refl s.start w && nat_eq_equiv.refl s.end w

same_turned : (s t : Span) → same_span s t ≡ same_span t s
same_turned s t = λ w. nat_eq_equiv.symm s.start t.start w && nat_eq_equiv.symm s.end t.end w

-- a place among others is the same as one of them
any_place : (s : Span) (f : Fact Span) {fs : List (Fact Span)} → Among f fs → same_span s f.at ≡ true →
    list_any (same_span s) (places_of fs) ≡ true
any_place s f (first {fs = fs}) e = ap (λ b. b || list_any (same_span s) (places_of fs)) e
any_place s f (later {g = g} i) e = or_right (same_span s g.at) (any_place s f i e)

-- the first finding is of another place, or the one that is asked for
behind_first : (f g : Fact Span) {fs : List (Fact Span)} (b : Bool) → same_span f.at g.at ≡ b → Among f fs →
    (not (list_any (same_span g.at) (places_of fs)) && places_distinct fs) ≡ true → fact_at f.at fs ≡ Some f →
    (if b then Some g else fact_at f.at fs) ≡ Some f
behind_first f g false e i d r = r
behind_first f g {fs = fs} true e i d r =
    clash
    (sym
    (ap (λ b. not b && places_distinct fs) (any_place g.at f i (same_turned g.at f.at ∙ e)))
    ∙ d)

pub each_found : (f : Fact Span) {fs : List (Fact Span)} → Among f fs → places_distinct fs ≡ true →
    fact_at f.at fs ≡ Some f
each_found f (first {fs = fs}) d = ap (λ b. if b then Some f else fact_at f.at fs) (same_itself f.at)
each_found f (later {g = g} {fs = fs} i) d =
    behind_first f g (same_span f.at g.at) refl i d
    (each_found f i (and_right (not (list_any (same_span g.at) (places_of fs))) (places_distinct fs) d))
