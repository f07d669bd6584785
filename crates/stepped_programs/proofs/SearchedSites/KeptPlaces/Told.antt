-- What is told of kept uses, each place once.
use Rattle.std.proofs.Common.{◌≡◌, ◌∙◌, refl, sym, ap, subst, Bool, true, false, if◌then◌else◌, List, [], ◌∷◌, ◌++◌, Option, None, append_assoc}
use Rattle.std.specs.List.{list_any}
use Rattle.std.proofs.lemmas.Option.{none-some}
use Rattle.go_tree.specs.declared.spans.Span.{Span}
use Rattle.run_rules.specs.ImportRules.Removed.{same_span}
use Rattle.repeated_parts.specs.UseSearch.UsesOfMarks.Uses.{PlacedMark}
use Rattle.run_rules.specs.Reduced.{reduced}
use Rattle.run_rules.specs.Run.{Standing, KeptUse, is_commented, kept_use, kept_among, places_once}
use Rattle.run_rules.specs.Sites.{MarkRef, Where, Site}
use Rattle.run_rules.specs.Steps.{At, same_here}
use Rattle.stepped_programs.specs.SearchedSites.Searched.{IsKept, AreSearched, at_the_end, past_kept, at_free, sites_in_file, files_in_order}
use Rattle.stepped_programs.specs.SearchedSites.Laws.{KeptSitesAreTold}
use Rattle.stepped_programs.proofs.SearchedSites.Steps.{by_file}
use Rattle.repeated_parts.specs.declared.use_search.search.FoundForm.{FoundForm}
use Rattle.repeated_parts.specs.declared.use_search.search.FoundObstacle.{FoundObstacle}
use Rattle.stepped_programs.specs.SearchedSites.KeptPlaces.Once.{span_of, sites_once, found_once, AreToldOnce, no_file, in_file}
use Rattle.stepped_programs.specs.SearchedSites.KeptPlaces.Laws.{KeptUsesAreToldOnce}
use Rattle.stepped_programs.proofs.SearchedSites.KeptPlaces.Once.{once_in_files, each_once}

module _ (marks : List MarkRef) (st : Standing) where
  -- what is found of a site at a span, and of those behind it
  abbrev found_at : List Span → FoundObstacle → List FoundObstacle → Span → List FoundObstacle
  found_at own k ks z = if list_any (same_span z) own then found_once own ks else k ∷ found_once (z ∷ own) ks

  one_once : (own : List Span) (x : Site At) (k : FoundObstacle) (xs : List (Site At)) (ks : List FoundObstacle) → IsKept marks st x k → AreSearched marks st (sites_once own xs) (found_once own ks) None
      → AreSearched marks st (sites_once (span_of x ∷ own) xs) (found_once (span_of x ∷ own) ks) None → AreSearched marks st (sites_once own (x ∷ xs)) (found_at own k ks (span_of x)) None
  one_once own x k xs ks i s t = by (list_any (same_span (span_of x)) own)
    where
      by : (b : Bool) → AreSearched marks st (if b then sites_once own xs else x ∷ sites_once (span_of x ∷ own) xs) (if b then found_once own ks else k ∷ found_once (span_of x ∷ own) ks) None
      by true = s
      by false = past_kept x k (sites_once (span_of x ∷ own) xs) (found_once (span_of x ∷ own) ks) None i t

  searched_once : (xs : List (Site At)) (ks : List FoundObstacle) (r : Option FoundForm) → AreSearched marks st xs ks r → r ≡ None → (own : List Span) → AreSearched marks st (sites_once own xs) (found_once own ks) None
  searched_once _ _ _ at_the_end e own = at_the_end
  searched_once _ _ _ (past_kept x k xs ks r i s) e own =
      let stands : k.use_.span ≡ span_of x = ap (λ (m : PlacedMark). m.1.0.0) i.0 in
      subst (λ (z : Span). AreSearched marks st (sites_once own (x ∷ xs)) (found_at own k ks z) None) (sym stands)
      (one_once own x k xs ks i (searched_once xs ks r s e own) (searched_once xs ks r s e (span_of x ∷ own)))
  searched_once _ _ _ (at_free x g xs i) e own = absurd (none-some g (sym e))

  module _ (told : KeptSitesAreTold) where
    abbrev kept_of : Site At → List KeptUse
    kept_of y = kept_use marks st y (reduced same_here (is_commented st) st.packages marks y)

    kept_append : (xs ys : List (Site At)) → kept_among marks st (xs ++ ys) ≡ kept_among marks st xs ++ kept_among marks st ys
    kept_append [] ys = refl
    kept_append (y ∷ xs) ys =
        ap (λ (us : List KeptUse). kept_of y ++ us) (kept_append xs ys) ∙ sym (append_assoc (kept_of y) (kept_among marks st xs) (kept_among marks st ys))

    pub files_told : (ws : List (Where At)) (us : List KeptUse) → AreToldOnce marks st ws us → kept_among marks st (once_in_files marks st ws) ≡ us
    files_told _ _ no_file = refl
    files_told _ _ (in_file w ks ws us a b) =
        kept_append (sites_once [] (sites_in_file marks st w)) (once_in_files marks st ws)
        ∙ (λ i. told marks st (sites_once [] (sites_in_file marks st w)) (found_once [] ks) (searched_once (sites_in_file marks st w) ks None a refl []) i ++ files_told ws us b i)

pub told_once : KeptSitesAreTold → KeptUsesAreToldOnce
told_once told marks st us k =
    ap (λ (xs : List (Site At)). kept_among marks st (places_once marks [] xs)) (by_file marks st)
    ∙ ap (kept_among marks st) (each_once marks st)
    ∙ files_told marks st told (files_in_order st.packages) us k
