-- The law of places that are told once. It is the contract of a function of this crate (golang.org/x/tools, analyzer
-- inline, for what is reported).
use Rattle.std.specs.Prelude.{◌≡◌, List}
use Rattle.run_rules.specs.Run.{Standing, KeptUse, uses_kept}
use Rattle.run_rules.specs.Sites.{MarkRef}
use Rattle.stepped_programs.specs.SearchedSites.Searched.{files_in_order}
use Rattle.stepped_programs.specs.SearchedSites.KeptPlaces.Once.{AreToldOnce}

-- These are the uses that the program keeps.
abbrev pub KeptUsesAreToldOnce : Type 0
KeptUsesAreToldOnce =
    (marks : List MarkRef) (st : Standing) (us : List KeptUse) → AreToldOnce marks st (files_in_order st.packages) us
    → uses_kept marks st ≡ us
