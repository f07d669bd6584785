-- Spans as the keys of a set.
use Rattle.std.proofs.Common.{◌≡◌, ◌∙◌, ℕ, Bool, true, false, ◌||◌, if◌then◌else◌, List, [], ◌∷◌, ◌++◌, map, refl, ap, arith}
use Rattle.std.specs.List.{list_any}
use Rattle.std.proofs.lemmas.List.Folds.{list_any-append}
use Rattle.std.proofs.lemmas.Bool.Decides.{nat_tests}
use Rattle.go_tree.specs.declared.spans.Span.{Span}
use Rattle.run_rules.specs.ImportRules.Removed.{span_at, same_span}

-- the spans of these keys
abbrev pub spans_of : List (ℕ × ℕ) → List Span
spans_of ks = map (λ k. span_at k.0 k.1) ks

pub any_view : (p : Span → Bool) (ks : List (ℕ × ℕ)) → list_any p (spans_of ks) ≡ list_any (λ k. p (span_at k.0 k.1)) ks
any_view p [] = refl
any_view p (k ∷ ks) = ap (λ b. p (span_at k.0 k.1) || b) (any_view p ks)

pub same_is : (a b : Span) → same_span a b ≡ true → a ≡ b
same_is a b e = grind (arith, nat_tests, e)

append_view : (ks : List (ℕ × ℕ)) (k : ℕ × ℕ) → spans_of (ks ++ k ∷ []) ≡ spans_of ks ++ span_at k.0 k.1 ∷ []
append_view [] k = refl
append_view (x ∷ xs) k = ap (λ r. span_at x.0 x.1 ∷ r) (append_view xs k)

or_turned : (a b : Bool) → (a || (b || false)) ≡ (b || a)
or_turned true true = refl
or_turned true false = refl
or_turned false true = refl
or_turned false false = refl

there : (q s : Span) (ss : List Span) (t : Bool) → same_span q s ≡ t → list_any (same_span s) ss ≡ true → list_any (same_span q) ss ≡ (t || list_any (same_span q) ss)
there q s ss true e h = ap (λ x. list_any (same_span x) ss) (same_is q s e) ∙ h
there q s ss false e h = refl

pub added_view : (q : Span) (ks : List (ℕ × ℕ)) (k : ℕ × ℕ) (b : Bool) → list_any (same_span (span_at k.0 k.1)) (spans_of ks) ≡ b
    → list_any (same_span q) (spans_of (if b then ks else ks ++ k ∷ [])) ≡ (same_span q (span_at k.0 k.1) || list_any (same_span q) (spans_of ks))
added_view q ks k true h = there q (span_at k.0 k.1) (spans_of ks) (same_span q (span_at k.0 k.1)) refl h
added_view q ks k false h =
    ap (list_any (same_span q)) (append_view ks k) ∙ list_any-append (same_span q) (spans_of ks) (span_at k.0 k.1 ∷ [])
    ∙ or_turned (list_any (same_span q) (spans_of ks)) (same_span q (span_at k.0 k.1))
