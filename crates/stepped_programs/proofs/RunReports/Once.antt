-- Uses of which each span is told once.
use Rattle.std.proofs.Common.{◌≡◌, ◌∙◌, ◌+◌, ◌<◌, ◌≤◌, refl, sym, ap, subst, ℕ, Bool, true, false, ◌||◌, if◌then◌else◌, List, [], ◌∷◌, length, drop, get_or, arith}
use Rattle.std.specs.List.{list_any}
use Rattle.std.proofs.lemmas.List.{drop_more, drop_all}
use Rattle.std.proofs.lemmas.Bool.Decides.{nat_tests}
use Rattle.go_tree.specs.declared.spans.Span.{Span}
use Rattle.run_rules.specs.ImportRules.Removed.{same_span}
use Rattle.repeated_parts.specs.declared.use_search.search.FoundObstacle.{FoundObstacle}
use Rattle.report_order.specs.declared.rows.ReportRow.{ReportRow}
use Rattle.stepped_programs.specs.RunReports.Rows.{InTurn}
use Rattle.stepped_programs.specs.RunReports.Kept.{uses_once}
use Rattle.stepped_programs.proofs.RunReports.Turns.{Leads, turn_more, turns_end}

-- ---- sets of spans

abbrev pub AreSame : List Span → List Span → Type 0
AreSame a b = (q : Span) → list_any (same_span q) a ≡ list_any (same_span q) b

-- what is told once depends on which spans there are
pub once_same : (a b : List Span) (ks : List FoundObstacle) → AreSame a b → uses_once a ks ≡ uses_once b ks
once_same a b [] h = refl
once_same a b (k ∷ ks) h =
    ap (λ (t : Bool). if t then uses_once a ks else k ∷ uses_once (k.use_.span ∷ a) ks) (h k.use_.span)
    ∙ (λ v. if list_any (same_span k.use_.span) b then once_same a b ks h v else k ∷ once_same (k.use_.span ∷ a) (k.use_.span ∷ b) ks (λ q w. same_span q k.use_.span || h q w) v)

-- ---- one use more

module _ (One : FoundObstacle → List ReportRow → List ReportRow → Type 0) (all : List FoundObstacle) (i : ℕ) (x : FoundObstacle) (spans more : List Span) (old now next : List ReportRow)
    (lt : i < length all) (read : x ≡ get_or all i x)
    (added : (q : Span) → list_any (same_span q) more ≡ same_span q x.use_.span || list_any (same_span q) spans)
    (lead : Leads One (uses_once [] all) old (uses_once spans (drop i all)) now) where
  first : drop i all ≡ x ∷ drop (i + 1) all
  first = drop_more all i x lt ∙ ap (λ (y : FoundObstacle). y ∷ drop (i + 1) all) (sym read)

  abbrev left : Bool → List FoundObstacle
  left t = if t then uses_once spans (drop (i + 1) all) else x ∷ uses_once (x.use_.span ∷ spans) (drop (i + 1) all)

  step : uses_once spans (drop i all) ≡ left (list_any (same_span x.use_.span) spans)
  step = ap (uses_once spans) first

  -- a span that is new
  pub once_new : list_any (same_span x.use_.span) spans ≡ false → One x now next → Leads One (uses_once [] all) old (uses_once more (drop (i + 1) all)) next
  once_new new one =
      turn_more One (uses_once [] all) (uses_once spans (drop i all)) (uses_once more (drop (i + 1) all)) x old now next
      (step ∙ ap left new ∙ ap (λ (ks : List FoundObstacle). x ∷ ks) (once_same (x.use_.span ∷ spans) more (drop (i + 1) all) (λ q. sym (added q))))
      lead one

  is_same : (a b : Span) → same_span a b ≡ true → a ≡ b
  is_same a b e = grind (arith, nat_tests, e)

  still_same : list_any (same_span x.use_.span) spans ≡ true → AreSame spans more
  still_same old_there q = by (same_span q x.use_.span) refl ∙ sym (added q)
    where
      by : (t : Bool) → same_span q x.use_.span ≡ t → list_any (same_span q) spans ≡ t || list_any (same_span q) spans
      by true e = ap (λ (s : Span). list_any (same_span s) spans) (is_same q x.use_.span e) ∙ old_there
      by false e = refl

  -- one that was told
  pub once_old : list_any (same_span x.use_.span) spans ≡ true → Leads One (uses_once [] all) old (uses_once more (drop (i + 1) all)) now
  once_old there = λ new h.
      lead new (subst (λ (ks : List FoundObstacle). InTurn One ks now new)
      (sym (step ∙ ap left there ∙ once_same spans more (drop (i + 1) all) (still_same there))) h)

pub once_all : (One : FoundObstacle → List ReportRow → List ReportRow → Type 0) (all : List FoundObstacle) (i : ℕ) (spans : List Span) (old now : List ReportRow) → length all ≤ i
    → Leads One (uses_once [] all) old (uses_once spans (drop i all)) now → InTurn One (uses_once [] all) old now
once_all One all i spans old now le lead =
    turns_end One (uses_once [] all) (uses_once spans (drop i all)) old now (ap (uses_once spans) (drop_all i all le)) lead
