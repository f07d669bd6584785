-- What holds for the spans of all parts still does once they are swapped.
use Rattle.std.proofs.Common.{◌≡◌, ◌∙◌, sym, ap, subst, ℕ, Bool, true, List, [], ◌∷◌, ◌++◌, map, Option, Some, None}
use Rattle.std.proofs.lemmas.List.{map-append}
use Rattle.go_tree.specs.Tree.{Expr}
use Rattle.constant_forms.specs.Views.{name_expr}
use Rattle.member_uses.specs.PossibleUses.Candidates.{Candidate}
use Rattle.member_uses.specs.PossibleUses.Parts.{after_expr}
use Rattle.run_rules.specs.Sites.{part_span}
use Rattle.run_rules.specs.Steps.{At}
use Rattle.stepped_programs.specs.SearchedSites.SwappedParts.Swaps.{PartsSwap, EachSpan, parts_in, spans_in}
use Rattle.stepped_programs.specs.SearchedSites.SwappedParts.Laws.{SwapsKeep}

module _ (P : At → Bool) where
  front : (xs ys : List At) → EachSpan P (xs ++ ys) → EachSpan P xs
  front [] ys h = tt
  front (x ∷ xs) ys h = (h.0, front xs ys h.1)

  behind : (xs ys : List At) → EachSpan P (xs ++ ys) → EachSpan P ys
  behind [] ys h = h
  behind (x ∷ xs) ys h = behind xs ys h.1

  both : (xs ys : List At) → EachSpan P xs → EachSpan P ys → EachSpan P (xs ++ ys)
  both [] ys h k = k
  both (x ∷ xs) ys h k = (h.0, both xs ys h.1 k)

  of_name : (at : At) (q : Option (List ℕ)) (n : List ℕ) → P at ≡ true → EachSpan P (spans_in (after_expr (name_expr at q n) []))
  of_name at None n h = (h, tt)
  of_name at (Some q) n h = (h, (h, tt))

  pub spans_of : {e new : Expr At} (old now : List (Candidate At)) (s : PartsSwap e new old now) → spans_in old ≡ map part_span s.front ++ (spans_in (after_expr e []) ++ map part_span s.back)
  spans_of {e = e} old now s =
      ap (map part_span) s.old_is ∙ map-append part_span s.front (parts_in (after_expr e []) ++ s.back)
      ∙ ap (λ (l : List At). map part_span s.front ++ l) (map-append part_span (parts_in (after_expr e [])) s.back)

pub swaps_keep : SwapsKeep
swaps_keep P e at q n old now s all here =
    let spans : EachSpan P (map part_span s.front ++ (spans_in (after_expr e []) ++ map part_span s.back)) = subst (EachSpan P) (spans_of P old now s) all in
    subst (EachSpan P) (sym s.now_is)
    (both P (map part_span s.front) (spans_in (after_expr (name_expr at q n) []) ++ map part_span s.back)
    (front P (map part_span s.front) (spans_in (after_expr e []) ++ map part_span s.back) spans)
    (both P (spans_in (after_expr (name_expr at q n) [])) (map part_span s.back) (of_name P at q n here)
    (behind P (spans_in (after_expr e [])) (map part_span s.back) (behind P (map part_span s.front) (spans_in (after_expr e []) ++ map part_span s.back) spans))))
