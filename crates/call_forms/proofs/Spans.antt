-- What stands at the spans of names.
use Rattle.std.proofs.Common.{◌≡◌, ◌∙◌, ℕ, nat_eq, Bool, true, false, ◌&&◌, cond, List, [], ◌∷◌, Option, Some, refl}
use Rattle.std.proofs.Common.{sym, ap, map, arith}
use Rattle.std.specs.Map.{lookup}
use Rattle.std.proofs.lemmas.Bool.{true≢false}
use Rattle.std.proofs.lemmas.Bool.Decides.{nat_tests}
use Rattle.indexmap.specs.IndexMap.{insert_entry}
use Rattle.go_tree.specs.declared.spans.Span.{Span}
use Rattle.run_rules.specs.ImportRules.Removed.{span_at, same_span}
use Rattle.call_forms.specs.Qualifiers.{at_span}

is_same : (a b : Span) → same_span a b ≡ true → a ≡ b
is_same a b e = grind (arith, nat_tests, e)

itself : (a : Span) → same_span a a ≡ true
itself a = grind (arith, nat_tests)

to_same : (a b : Span) → a ≡ b → same_span a b ≡ true
to_same a b e = ap (same_span a) (sym e) ∙ itself a

abbrev pub span_of : ℕ × ℕ → Span
span_of k = span_at k.0 k.1

abbrev pub spans_of : {A : Type 0} → List ((ℕ × ℕ) × A) → List (Span × A)
spans_of es = map (λ e. (span_at e.0.0 e.0.1, e.1)) es

-- what is looked up
pub span_found : {A : Type 0} (q : Span) (es : List ((ℕ × ℕ) × A)) → lookup (λ k. nat_eq q.start k.0 && nat_eq q.end
    k.1) es ≡ at_span q (spans_of es)
span_found q [] = refl
span_found {A} q (e ∷ es) = ap (λ (o : Option A). cond (same_span q (span_of e.0)) (Some e.1) o) (span_found q es)

abbrev pub set_in : {A : Type 0} → List ((ℕ × ℕ) × A) → ℕ × ℕ → A → List ((ℕ × ℕ) × A)
set_in es k x = insert_entry (λ a b. nat_eq a.0 b.0 && nat_eq a.1 b.1) es k x

-- a span that is set has what it is set to
pub span_set : {A : Type 0} (k : ℕ × ℕ) (x : A) (q : Span) (es : List ((ℕ × ℕ) × A)) → at_span q (spans_of (set_in es k
    x)) ≡ cond (same_span q (span_of k)) (Some x) (at_span q (spans_of es))
span_set k x q [] = refl
span_set {A} k x q (e ∷ es) = by (same_span (span_of k) (span_of e.0)) refl (span_set k x q es)
  where
    other : same_span (span_of k) (span_of e.0) ≡ false → (u v : Bool) → same_span q (span_of k) ≡ u → same_span q
        (span_of e.0) ≡ v
        → cond v (Some e.1) (cond u (Some x) (at_span q (spans_of es))) ≡ cond u (Some x) (cond v (Some e.1) (at_span q
        (spans_of es)))
    other f true true g h =
        absurd (true≢false (sym (to_same (span_of k) (span_of e.0) (sym (is_same q (span_of k) g) ∙ is_same q (span_of
        e.0) h)) ∙ f))
    other f true false g h = refl
    other f false v g h = refl

    same : same_span (span_of k) (span_of e.0) ≡ true → (u v : Bool) → same_span q (span_of k) ≡ u → same_span q
        (span_of e.0) ≡ v
        → cond v (Some x) (at_span q (spans_of es)) ≡ cond u (Some x) (cond v (Some e.1) (at_span q (spans_of es)))
    same f true true g h = refl
    same f true false g h =
        absurd (true≢false (sym (to_same q (span_of e.0) (is_same q (span_of k) g ∙ is_same (span_of k) (span_of e.0)
        f)) ∙ h))
    same f false true g h =
        absurd (true≢false (sym (to_same q (span_of k) (is_same q (span_of e.0) h ∙ sym (is_same (span_of k) (span_of
        e.0) f))) ∙ g))
    same f false false g h = refl

    by : (t : Bool) → same_span (span_of k) (span_of e.0) ≡ t
        → at_span q (spans_of (set_in es k x)) ≡ cond (same_span q (span_of k)) (Some x) (at_span q (spans_of es))
        → at_span q (spans_of (cond t ((e.0, x) ∷ es) (e ∷ set_in es k x)))
        ≡ cond (same_span q (span_of k)) (Some x) (cond (same_span q (span_of e.0)) (Some e.1) (at_span q (spans_of
        es)))
    by true f r = same f (same_span q (span_of k)) (same_span q (span_of e.0)) refl refl
    by false f r =
        ap (λ (o : Option A). cond (same_span q (span_of e.0)) (Some e.1) o) r
        ∙ other f (same_span q (span_of k)) (same_span q (span_of e.0)) refl refl
