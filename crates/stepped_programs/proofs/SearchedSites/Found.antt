-- What a search over a file answers are its sites.
use Rattle.std.proofs.Common.{◌≡◌, ◌∙◌, refl, sym, ap, List, [], ◌∷◌, ◌++◌, map, Option, Some, None}
use Rattle.std.proofs.lemmas.Option.{none-some}
use Rattle.go_tree.specs.declared.spans.Span.{Span}
use Rattle.go_tree.specs.File.{File}
use Rattle.run_rules.specs.Programs.{numbered}
use Rattle.run_rules.specs.Reduced.{Reduced}
use Rattle.run_rules.specs.Sites.{MarkRef, Where, Site}
use Rattle.run_rules.specs.Respanned.{packages_with}
use Rattle.run_rules.specs.Steps.{At}
use Rattle.run_rules.specs.Run.{Standing, KeptUse, here_of, is_commented, kept_use, kept_among}
use Rattle.constant_forms.specs.declared.reduced.ReducedConstant.{ReducedConstant}
use Rattle.constant_forms.specs.Uses.{IsReducedTo}
use Rattle.repeated_parts.specs.declared.use_search.uses_of_marks.uses.MarkedUse.{MarkedUse}
use Rattle.repeated_parts.specs.UseSearch.UsesOfMarks.Uses.{PlacedMark, decls_uses}
use Rattle.repeated_parts.specs.UseSearch.UsesOfMarks.Views.{placed_of}
use Rattle.repeated_parts.specs.UseSearch.UsesOfMarks.Laws.{placed_site, placed_sites, EachSite, IsPlaced, MarkedUsesAreSites, UsesArePlaced}
use Rattle.repeated_parts.specs.declared.use_search.search.FoundForm.{FoundForm}
use Rattle.repeated_parts.specs.declared.use_search.search.FoundObstacle.{FoundObstacle}
use Rattle.repeated_parts.specs.declared.use_search.views.FileView.{FileView}
use Rattle.repeated_parts.specs.declared.use_search.views.ProgramView.{ProgramView}
use Rattle.repeated_parts.specs.UseSearch.Answers.{names_of, IsAnswer}
use Rattle.repeated_parts.specs.UseSearch.Search.{IsSearched, kept_by}
use Rattle.repeated_parts.specs.UseSearch.Search as search
use Rattle.stepped_programs.specs.SearchedSites.Told.{IsProgram, IsFile}
use Rattle.stepped_programs.specs.SearchedSites.Searched.{StandsFor, AreSearched, at_the_end, past_kept, at_free, kept_told, sites_in_file}
use Rattle.stepped_programs.specs.SearchedSites.Laws.{SearchesFindSites, KeptSitesAreTold}
use Rattle.stepped_programs.proofs.SearchedSites.Uses.{knows, constant, declared, value, value_told, home_small, mark_small, is_use, in_packages}

abbrev head_or : PlacedMark → List PlacedMark → PlacedMark
head_or d [] = d
head_or d (x ∷ xs) = x

abbrev behind : List PlacedMark → List PlacedMark
behind [] = []
behind (x ∷ xs) = xs

module _ (marks : List MarkRef) (st : Standing) (w : Where At) (p : ProgramView) (f : FileView) (ip : IsProgram marks st p) (iw : IsFile marks st w f) where
  -- a use becomes what is answered
  answered : (x : Site At) (u : MarkedUse) (r : ReducedConstant) → IsPlaced st.packages marks w (names_of f) x → StandsFor x u → IsAnswer p f u (Some r)
      → IsReducedTo st.packages (is_commented st) marks x r
  answered x u r placed at (c, (told, reduces)) =
      reduces st.packages (is_commented st) marks x (declared marks st w p f ip iw x u placed at).file (constant marks st w p f ip iw x u placed at).name
      (constant marks st w p f ip iw x u placed at).expr (is_use marks st w p f ip iw x u placed at c told)

  -- something is answered
  unanswered : (x : Site At) (u : MarkedUse) → IsPlaced st.packages marks w (names_of f) x → StandsFor x u → IsAnswer p f u None → ⊥
  unanswered x u placed at none =
      let t = none (value marks st w p f ip iw x u placed at).value (value_told marks st w p f ip iw x u placed at) (home_small marks st w p f ip iw x u placed at)
      (mark_small marks st w p f ip iw x u placed at) in
      t.1.1 (in_packages marks st w p f ip iw x u placed at t.0 t.1.0)

  searched : (us : List MarkedUse) (ks : List FoundObstacle) (r : Option FoundForm) → IsSearched p f us ks r → (xs : List (Site At)) → map placed_of us ≡ placed_sites xs
      → EachSite (IsPlaced st.packages marks w (names_of f)) xs → AreSearched marks st xs ks r
  searched _ _ _ search.at_the_end [] e h = at_the_end
  searched _ _ _ search.at_the_end (x ∷ xs) e h = absurd cc
  searched _ _ _ (search.past_kept u o us ks r a s) [] e h = absurd cc
  searched _ _ _ (search.past_kept u o us ks r a s) (x ∷ xs) e h =
      let at : placed_of u ≡ placed_site x = ap (head_or (placed_of u)) e in
      past_kept x (kept_by u o) xs ks r (at, (answered x u _ h.0 at a).is) (searched us ks r s xs (ap behind e) h.1)
  searched _ _ _ (search.past_unanswered u us ks r a s) [] e h = absurd cc
  searched _ _ _ (search.past_unanswered u us ks r a s) (x ∷ xs) e h =
      let at : placed_of u ≡ placed_site x = ap (head_or (placed_of u)) e in
      absurd (unanswered x u h.0 at a)
  searched _ _ _ (search.at_free g us a) [] e h = absurd cc
  searched _ _ _ (search.at_free g us a) (x ∷ xs) e h =
      let at : placed_of g.use_ ≡ placed_site x = ap (head_or (placed_of g.use_)) e in
      let r = answered x g.use_ _ h.0 at a in
      at_free x g xs (record { stands_for = at; becomes = r.is; there = r.stands_there })

pub find_sites : MarkedUsesAreSites → UsesArePlaced → SearchesFindSites
find_sites are placed marks st w p f ks r ip iw s =
    searched marks st w p f ip iw s.uses ks r s.searched (sites_in_file marks st w)
    (s.are_all
    ∙ ap (λ (y : File Span). decls_uses (λ z. z) (packages_with here_of st.packages) marks (names_of f) p.types.now (numbered y.decls)) iw.tree_is
    ∙ are st.packages marks w (names_of f) p.types.now (knows marks st w p f ip iw) ip.constants iw.sound (ip.fields w iw.there iw.in_package (names_of f) (knows marks st w p f ip iw)))
    (placed st.packages marks w (names_of f) p.types.now (knows marks st w p f ip iw) ip.constants iw.sound (ip.fields w iw.there iw.in_package (names_of f) (knows marks st w p f ip iw)))

told_so : (marks : List MarkRef) (st : Standing) (xs : List (Site At)) (ks : List FoundObstacle) (r : Option FoundForm) → AreSearched marks st xs ks r → r ≡ None
    → kept_among marks st xs ≡ kept_told marks st xs ks
told_so marks st _ _ _ at_the_end e = refl
told_so marks st _ _ _ (past_kept x k xs ks r i s) e =
    ap (λ (o : Option (Reduced At)). kept_use marks st x o ++ kept_among marks st xs) i.1
    ∙ ap (λ (us : List KeptUse). kept_told marks st (x ∷ []) (k ∷ []) ++ us) (told_so marks st xs ks r s e)
told_so marks st _ _ _ (at_free x g xs i) e = absurd (none-some g (sym e))

pub kept_are_told : KeptSitesAreTold
kept_are_told marks st xs ks s = told_so marks st xs ks None s refl
