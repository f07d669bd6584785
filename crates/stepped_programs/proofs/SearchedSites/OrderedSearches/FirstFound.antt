-- The first free use that is found is the one that the run takes.
use Rattle.std.proofs.Common.{◌≡◌, ◌∙◌, sym, ap, subst, ℕ, Bool, List, length, Option, Some, None}
use Rattle.std.proofs.lemmas.Option.{same_Some}
use Rattle.go_scan.specs.TokenLists.{TokenLists}
use Rattle.run_rules.specs.Programs.{dependency_order}
use Rattle.run_rules.specs.Respanned.{source_with}
use Rattle.run_rules.specs.Sites.{MarkRef, Where, Site}
use Rattle.run_rules.specs.Steps.{At, same_here, first_found}
use Rattle.run_rules.specs.Run.{Standing, here_of, is_commented}
use Rattle.constant_forms.specs.declared.uses.ConstantUse.{ConstantUse}
use Rattle.stepped_programs.specs.SearchedSites.LookedFiles.Laws.{LooksTellFiles}
use Rattle.repeated_parts.specs.UseSearch.MarkValues.Values.{value_of}
use Rattle.repeated_parts.specs.UseSearch.UsesOfMarks.Laws.{UsesArePlaced}
use Rattle.stepped_programs.specs.declared.package_search.looks.ProgramSources.{ProgramSources}
use Rattle.stepped_programs.specs.declared.package_search.search.FoundInPackage.{FoundInPackage}
use Rattle.stepped_programs.specs.SearchedSites.Told.{IsWithin, IsFile}
use Rattle.stepped_programs.specs.SearchedSites.Searched.{sites_in_files, files_in_order}
use Rattle.stepped_programs.specs.SearchedSites.Laws.{SearchesFindSites}
use Rattle.stepped_programs.proofs.SearchedSites.Steps.{by_file, have_steps}
use Rattle.stepped_programs.proofs.SearchedSites.Uses.{constant, declared, value, value_told, is_use}
use Rattle.repeated_parts.specs.UseSearch.Answers.{IsTold}
use Rattle.stepped_programs.specs.SearchedSites.OrderedSearches.Held.{IsThere, IsHeld, Users, AreAllSettled}
use Rattle.stepped_programs.specs.SearchedSites.OrderedSearches.Search.{IsFirstFree}
use Rattle.stepped_programs.specs.SearchedSites.OrderedSearches.Found.{IsFoundFirst, IsStepFound}
use Rattle.stepped_programs.specs.SearchedSites.OrderedSearches.Laws.{SearchesFindSteps}
use Rattle.stepped_programs.proofs.SearchedSites.OrderedSearches.Ordered.{FoundAt, first_found_there, all_passed}
use Rattle.stepped_programs.proofs.SearchedSites.OrderedSearches.FirstSites.{FoundFirst, first_among}

module _ (marks : List MarkRef) (st : Standing) (s : ProgramSources) (users : Users) (k : ℕ) (r : FoundInPackage) (f : FoundFirst marks st s users k r (sites_in_files marks st (files_in_order st.packages))) where
  abbrev x : Site At
  x = f.site

  abbrev w : Where At
  w = f.stands.file

  abbrev at : FoundAt marks st s users k r w
  at = f.stands.found

  there : x.at ≡ w
  there = f.stands.placed.there

  abbrev c : ConstantUse
  c = at.answer.0

  told : IsTold at.program at.view r.found.use_ c
  told = at.answer.1.0

  value_same : value_of c.value ≡ (value marks st w at.program at.view at.is_program at.is_file x r.found.use_ f.stands.placed f.is_free.stands_for).value
  value_same =
      same_Some (value_of c.value) (value marks st w at.program at.view at.is_program at.is_file x r.found.use_ f.stands.placed f.is_free.stands_for).value
      (sym told.value_is ∙ value_told marks st w at.program at.view at.is_program at.is_file x r.found.use_ f.stands.placed f.is_free.stands_for)

  pub found_first : IsFoundFirst marks st s k r
  found_first =
      record {
        site = x;
        is_free = f.is_free;
        is_first = ap (first_found same_here (is_commented st) st.packages marks) (by_file marks st) ∙ f.is_first;
        is_there = subst (λ (v : Where At). IsThere st.packages v) (sym there) at.there;
        number_is = ap (λ (v : Where At). v.number) there ∙ at.number_is;
        file_is = ap (λ (v : Where At). v.file_number) there ∙ at.file_is;
        source_is = λ home source h i. at.source_is home source h i ∙ ap (λ (v : Where At). source_with here_of v.source) (sym there);
        view = at.view;
        tables_are = at.tables_are;
        is_file = subst (λ (v : Where At). IsFile marks st v at.view) (sym there) at.is_file;
        home = (declared marks st w at.program at.view at.is_program at.is_file x r.found.use_ f.stands.placed f.is_free.stands_for).file;
        name = (constant marks st w at.program at.view at.is_program at.is_file x r.found.use_ f.stands.placed f.is_free.stands_for).name;
        value = (constant marks st w at.program at.view at.is_program at.is_file x r.found.use_ f.stands.placed f.is_free.stands_for).expr;
        told = c;
        is_use = is_use marks st w at.program at.view at.is_program at.is_file x r.found.use_ f.stands.placed f.is_free.stands_for c told;
        told_by = record { names_are = told.names_are; table_is = told.table_is; file_is = told.file_is };
        within = subst (IsWithin (length st.packages)) (sym value_same) (value marks st w at.program at.view at.is_program at.is_file x r.found.use_ f.stands.placed f.is_free.stands_for).within;
      }

steps_found : LooksTellFiles → SearchesFindSites → UsesArePlaced → (marks : List MarkRef) (st : Standing) (s : ProgramSources) (tokens : ℕ → List TokenLists) (users : Users) (flags : ℕ → List Bool)
    (order : List ℕ) → IsHeld marks st s tokens → AreAllSettled marks st users flags → order ≡ dependency_order st.packages → (o : Option (ℕ × FoundInPackage)) → IsFirstFree s tokens flags order o
    → IsStepFound marks st s o
steps_found tell find law marks st s tokens users flags order held settled e None f =
    have_steps marks st None (all_passed marks st s tokens held tell find users flags settled order e f)
steps_found tell find law marks st s tokens users flags order held settled e (Some q) f =
    found_first marks st s users q.0 q.1
    (first_among marks st s users q.0 q.1 law (files_in_order st.packages) (first_found_there marks st s tokens held tell find users flags settled order e q.0 q.1 f))

pub find_steps : LooksTellFiles → SearchesFindSites → UsesArePlaced → SearchesFindSteps
find_steps tell find law marks st s tokens users flags order r held settled e f = steps_found tell find law marks st s tokens users flags order held settled e r f
