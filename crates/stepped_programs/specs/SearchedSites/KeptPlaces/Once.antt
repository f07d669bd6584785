-- Kept uses of a file, each place once (golang.org/x/tools, analyzer inline, for what is reported).
use Rattle.std.specs.Prelude.{List, [], ◌∷◌, ◌++◌, None, if◌then◌else◌}
use Rattle.std.specs.List.{list_any}
use Rattle.go_tree.specs.declared.spans.Span.{Span}
use Rattle.run_rules.specs.ImportRules.Removed.{same_span}
use Rattle.run_rules.specs.Run.{Standing, KeptUse, here_of}
use Rattle.run_rules.specs.Sites.{MarkRef, Where, Site, part_span}
use Rattle.run_rules.specs.Steps.{At}
use Rattle.stepped_programs.specs.SearchedSites.Searched.{AreSearched, kept_told, sites_in_file}
use Rattle.repeated_parts.specs.declared.use_search.search.FoundObstacle.{FoundObstacle}

-- where a site stands
abbrev pub span_of : Site At → Span
span_of x = here_of (part_span x.part)

-- sites of a file behind those with these spans, each span once
abbrev pub sites_once : List Span → List (Site At) → List (Site At)
sites_once spans [] = []
sites_once spans (x ∷ xs) =
    if list_any (same_span (span_of x)) spans then sites_once spans xs else x ∷ sites_once (span_of x ∷ spans) xs

-- the same of what a search found of them
abbrev pub found_once : List Span → List FoundObstacle → List FoundObstacle
found_once spans [] = []
found_once spans (k ∷ ks) =
    if list_any (same_span k.use_.span) spans then found_once spans ks else k ∷ found_once (k.use_.span ∷ spans) ks

-- what is told of the uses of files, one after another, in which none is free
pub data AreToldOnce (marks : List MarkRef) (st : Standing) : List (Where At) → List KeptUse → Type 0 where
  no_file : AreToldOnce marks st [] []
  in_file : (w : Where At) (kept : List FoundObstacle) (ws : List (Where At)) (us : List KeptUse)
      → AreSearched marks st (sites_in_file marks st w) kept None → AreToldOnce marks st ws us
      → AreToldOnce marks st (w ∷ ws)
      (kept_told marks st (sites_once [] (sites_in_file marks st w)) (found_once [] kept) ++ us)
