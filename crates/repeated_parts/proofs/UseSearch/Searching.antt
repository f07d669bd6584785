-- Uses that are looked at one after another.
use Rattle.std.proofs.Common.{◌≡◌, ◌∙◌, refl, sym, ap, subst, ℕ, ◌+◌, ◌<◌, ◌≤◌, List, [], ◌∷◌, ◌++◌, length, drop, get_or, Option, Some, None, inl, inr, append_assoc, append-nil}
use Rattle.std.proofs.lemmas.List.{drop_more}
use Rattle.file_names.proofs.Walks.{nothing_left}
use Rattle.constant_forms.specs.declared.reduced.ReducedConstant.TheVariants.{Becomes}
use Rattle.repeated_parts.specs.declared.use_search.uses_of_marks.uses.MarkedUse.{MarkedUse}
use Rattle.repeated_parts.specs.declared.use_search.search.FoundForm.{FoundForm}
use Rattle.repeated_parts.specs.declared.use_search.search.FoundObstacle.{FoundObstacle}
use Rattle.repeated_parts.specs.declared.use_search.views.FileView.{FileView}
use Rattle.repeated_parts.specs.declared.use_search.views.ProgramView.{ProgramView}
use Rattle.repeated_parts.specs.UseSearch.Answers.{IsAnswer}
use Rattle.repeated_parts.specs.UseSearch.Search.{kept_by, IsLooked, IsSearched, at_the_end, past_kept, past_unanswered, at_free}

-- the use and those behind it
split : (us : List MarkedUse) (i : ℕ) (u d : MarkedUse) → i < length us → u ≡ get_or us i d → drop i us ≡ u ∷ drop (i + 1) us
split us i u d h e = drop_more us i d h ∙ ap (λ (x : MarkedUse). x ∷ drop (i + 1) us) (sym e)

module _ (p : ProgramView) (f : FileView) where
  -- So far the search has come: what is found behind is found in all, behind those that are kept.
  abbrev pub Goes : List MarkedUse → ℕ → List FoundObstacle → Type 0
  Goes us i kept = (ks : List FoundObstacle) (r : Option FoundForm) → IsSearched p f (drop i us) ks r → IsSearched p f us (kept ++ ks) r

  -- a use that isn't free
  goes_on : (us : List MarkedUse) (i : ℕ) (u d : MarkedUse) (was now : List FoundObstacle) → i < length us → u ≡ get_or us i d → IsLooked p f u was now None
      → Goes us i was → Goes us (i + 1) now
  goes_on us i u d was now h e (inl (o, (a, n))) go = λ ks r s.
      subst (λ (xs : List FoundObstacle). IsSearched p f us xs r) (sym (ap (λ (xs : List FoundObstacle). xs ++ ks) n ∙ append_assoc was (kept_by u o ∷ []) ks))
      (go (kept_by u o ∷ ks) r
      (subst (λ (xs : List MarkedUse). IsSearched p f xs (kept_by u o ∷ ks) r) (sym (split us i u d h e)) (past_kept u o (drop (i + 1) us) ks r a s)))
  goes_on us i u d was now h e (inr (a, n)) go = λ ks r s.
      subst (λ (xs : List FoundObstacle). IsSearched p f us (xs ++ ks) r) (sym n)
      (go ks r (subst (λ (xs : List MarkedUse). IsSearched p f xs ks r) (sym (split us i u d h e)) (past_unanswered u (drop (i + 1) us) ks r a s)))

  -- the first that is free
  stops : (us : List MarkedUse) (i : ℕ) (u d : MarkedUse) (was now : List FoundObstacle) (g : FoundForm) → i < length us → u ≡ get_or us i d
      → IsLooked p f u was now (Some g) → Goes us i was → IsSearched p f us now (Some g)
  stops us i u d was now g h e (q, (a, n)) go =
      subst (λ (xs : List FoundObstacle). IsSearched p f us xs (Some g)) (append-nil was ∙ sym n)
      (go [] (Some g)
      (subst (λ (xs : List MarkedUse). IsSearched p f xs [] (Some g))
      (sym (split us i u d h e ∙ ap (λ (x : MarkedUse). x ∷ drop (i + 1) us) (sym q)))
      (at_free g (drop (i + 1) us) (subst (λ (x : MarkedUse). IsAnswer p f x (Some (Becomes g.form))) (sym q) a))))

  -- a use that is looked at
  pub looked_on : (us : List MarkedUse) (i : ℕ) (d : MarkedUse) (was now : List FoundObstacle) (o : Option FoundForm) → i < length us → IsLooked p f (get_or us i d) was now o → o ≡ None
      → Goes us i was → Goes us (i + 1) now
  looked_on us i d was now o h l e go = goes_on us i (get_or us i d) d was now h refl (subst (IsLooked p f (get_or us i d) was now) e l) go

  pub looked_last : (us : List MarkedUse) (i : ℕ) (d : MarkedUse) (was now : List FoundObstacle) (o : Option FoundForm) (g : FoundForm) → i < length us → IsLooked p f (get_or us i d) was now o
      → o ≡ Some g → Goes us i was → IsSearched p f us now (Some g)
  looked_last us i d was now o g h l e go = stops us i (get_or us i d) d was now g h refl (subst (IsLooked p f (get_or us i d) was now) e l) go

  -- nothing is kept yet
  pub begins : (us : List MarkedUse) (was : List FoundObstacle) → was ≡ [] → Goes us 0 was
  begins us was e = λ ks r s. subst (λ (xs : List FoundObstacle). IsSearched p f us (xs ++ ks) r) (sym e) s

  -- none is free
  pub ends : (us : List MarkedUse) (i : ℕ) (was : List FoundObstacle) → length us ≤ i → Goes us i was → IsSearched p f us was None
  ends us i was h go =
      subst (λ (xs : List FoundObstacle). IsSearched p f us xs None) (append-nil was)
      (go [] None (subst (λ (xs : List MarkedUse). IsSearched p f xs [] None) (sym (nothing_left us i h)) at_the_end))
