-- Spans that come to a set.
use Rattle.std.proofs.Common.{◌≡◌, ◌∙◌, refl, ap, ℕ, Bool, true, false, ◌||◌, cond, List, [], ◌∷◌, ◌++◌, map, arith}
use Rattle.std.specs.List.{list_any}
use Rattle.std.proofs.lemmas.Bool.Decides.{nat_tests}
use Rattle.std.proofs.lemmas.List.Folds.{list_any-append}
use Rattle.go_tree.specs.declared.spans.Span.{Span}
use Rattle.run_rules.specs.ImportRules.Removed.{same_span, span_at}

abbrev pub spans_of : List (ℕ × ℕ) → List Span
spans_of ks = map (λ k. span_at k.0 k.1) ks

pub any_span : (p : Span → Bool) (ks : List (ℕ × ℕ)) → list_any p (spans_of ks) ≡ list_any (λ k. p (span_at k.0 k.1)) ks
any_span p [] = refl
any_span p (k ∷ ks) = ap (λ (b : Bool). p (span_at k.0 k.1) || b) (any_span p ks)

is_same : (a b : Span) → same_span a b ≡ true → a ≡ b
is_same a b e = grind (arith, nat_tests, e)

last_span : (ks : List (ℕ × ℕ)) (k : ℕ × ℕ) → spans_of (ks ++ k ∷ []) ≡ spans_of ks ++ span_at k.0 k.1 ∷ []
last_span [] k = refl
last_span (x ∷ xs) k = ap (λ (r : List Span). span_at x.0 x.1 ∷ r) (last_span xs k)

or_turned : (a b : Bool) → (a || (b || false)) ≡ (b || a)
or_turned true true = refl
or_turned true false = refl
or_turned false true = refl
or_turned false false = refl

there : (q s : Span) (spans : List Span) (b : Bool) → same_span q s ≡ b → list_any (same_span s) spans ≡ true → list_any (same_span q) spans ≡ (b || list_any (same_span q) spans)
there q s spans true e h = ap (λ (z : Span). list_any (same_span z) spans) (is_same q s e) ∙ h
there q s spans false e h = refl

pub span_added : (q : Span) (ks : List (ℕ × ℕ)) (k : ℕ × ℕ) (b : Bool) → list_any (same_span (span_at k.0 k.1)) (spans_of ks) ≡ b
    → list_any (same_span q) (spans_of (cond b ks (ks ++ k ∷ []))) ≡ (same_span q (span_at k.0 k.1) || list_any (same_span q) (spans_of ks))
span_added q ks k true h = there q (span_at k.0 k.1) (spans_of ks) (same_span q (span_at k.0 k.1)) refl h
span_added q ks k false h =
    ap (list_any (same_span q)) (last_span ks k) ∙ list_any-append (same_span q) (spans_of ks) (span_at k.0 k.1 ∷ [])
    ∙ or_turned (list_any (same_span q) (spans_of ks)) (same_span q (span_at k.0 k.1))
