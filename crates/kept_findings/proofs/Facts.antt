-- What is kept at a place says what is found there.
use Rattle.std.specs.Prelude.{◌≡◌, refl, Bool, true, false, List, [], ◌∷◌, Option, Some, None, if◌then◌else◌}
use mathlib.Core.Path.{ap, sym, ◌∙◌}
use Rattle.go_tree.specs.declared.spans.Span.{Span}
use Rattle.go_tree.specs.GoTypes.Answers.{given}
use Rattle.go_tree.specs.GoTypes.Table.{TypeNode}
use Rattle.checked_findings.specs.Facts.{Fact}
use Rattle.checked_findings.specs.LookUp.{same_span, fact_at, places_of}
use Rattle.kept_findings.specs.declared.findings.Finding.{Finding}
use Rattle.kept_findings.specs.Kept.{fact_by, facts_by, spans_kept, kept_at}

module _ (rows : List TypeNode) where
  chosen : (b : Bool) (f : Finding) (o : Option (Fact Span)) (q : Option Finding) →
      o ≡ given q (λ f. Some (fact_by rows f)) →
      (if b then Some (fact_by rows f) else o) ≡ given (if b then Some f else q) (λ f. Some (fact_by rows f))
  chosen true f o q e = refl
  chosen false f o q e = e

  pub kept-are-facts : (fs : List Finding) (s : Span) →
      fact_at s (facts_by rows fs) ≡ given (kept_at s fs) (λ f. Some (fact_by rows f))
  kept-are-facts [] s = refl
  kept-are-facts (f ∷ fs) s =
      chosen (same_span s f.at) f (fact_at s (facts_by rows fs)) (kept_at s fs) (kept-are-facts fs s)

  pub places-are-kept : (fs : List Finding) → places_of (facts_by rows fs) ≡ spans_kept fs
  places-are-kept [] = refl
  places-are-kept (f ∷ fs) = ap (λ ss. f.at ∷ ss) (places-are-kept fs)
