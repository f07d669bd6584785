-- The laws of searches. Each is the contract of a function of this crate (Go specification, Constant declarations;
-- Qualified identifiers; golang.org/x/tools, internal/refactor/inline, for what a run takes).
use Rattle.std.specs.Prelude.{◌≡◌, List, Option, Some, None}
use Rattle.run_rules.specs.Sites.{MarkRef, Where, Site, sites}
use Rattle.run_rules.specs.Respanned.{packages_with}
use Rattle.run_rules.specs.Steps.{At}
use Rattle.run_rules.specs.Run.{Standing, here_of, step_in, kept_among}
use Rattle.repeated_parts.specs.declared.use_search.search.FoundForm.{FoundForm}
use Rattle.repeated_parts.specs.declared.use_search.search.FoundObstacle.{FoundObstacle}
use Rattle.repeated_parts.specs.declared.use_search.views.FileView.{FileView}
use Rattle.repeated_parts.specs.declared.use_search.views.ProgramView.{ProgramView}
use Rattle.repeated_parts.specs.UseSearch.Search.{IsFileSearch}
use Rattle.stepped_programs.specs.SearchedSites.Told.{IsProgram, IsFile}
use Rattle.stepped_programs.specs.SearchedSites.Searched.{found_of, IsFree, AreSearched, kept_told, sites_in_file}
use Rattle.stepped_programs.specs.SearchedSites.Searched.{sites_in_files, FilesSearched, files_in_order}

-- What a search over a file answers are the sites of the file.
abbrev pub SearchesFindSites : Type 0
SearchesFindSites =
    (marks : List MarkRef) (st : Standing) (w : Where At) (p : ProgramView) (f : FileView) (ks : List FoundObstacle)
    (r : Option FoundForm) → IsProgram marks st p → IsFile marks st w f
    → IsFileSearch (packages_with here_of st.packages) marks p f ks r → AreSearched marks st (sites_in_file marks st w) ks r

-- Of sites none of which is free, this is told.
abbrev pub KeptSitesAreTold : Type 0
KeptSitesAreTold =
    (marks : List MarkRef) (st : Standing) (xs : List (Site At)) (ks : List FoundObstacle)
    → AreSearched marks st xs ks None → kept_among marks st xs ≡ kept_told marks st xs ks

-- The sites of a program are those of its files, in their order.
abbrev pub SitesAreByFile : Type 0
SitesAreByFile =
    (marks : List MarkRef) (st : Standing)
    → sites st.packages marks ≡ sites_in_files marks st (files_in_order st.packages)

-- Where the files of a program are searched in their order, what is found is the step that the run takes; where nothing
-- is, no use is free.
pub record IsFirstStep (marks : List MarkRef) (st : Standing) (g : FoundForm) : Type 0 where
  pub site : Site At
  pub is_free : IsFree marks st site g
  pub is_first : step_in marks st ≡ Some (found_of site g)

-- the step that is found
abbrev pub HasStep : List MarkRef → Standing → Option FoundForm → Type 0
HasStep marks st None = step_in marks st ≡ None
HasStep marks st (Some g) = IsFirstStep marks st g

-- So it is.
abbrev pub FilesHaveSteps : Type 0
FilesHaveSteps =
    (marks : List MarkRef) (st : Standing) (r : Option FoundForm)
    → FilesSearched marks st (files_in_order st.packages) r → HasStep marks st r
