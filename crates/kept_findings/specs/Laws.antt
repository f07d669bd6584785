-- The laws of kept findings. Each is the contract of a function of this crate.
use Rattle.std.specs.Prelude.{◌≡◌, List, Some}
use Rattle.go_tree.specs.declared.spans.Span.{Span}
use Rattle.go_tree.specs.GoTypes.Answers.{given}
use Rattle.go_tree.specs.GoTypes.Table.{TypeNode}
use Rattle.checked_findings.specs.LookUp.{fact_at, places_of}
use Rattle.kept_findings.specs.declared.findings.Finding.{Finding}
use Rattle.kept_findings.specs.Kept.{fact_by, facts_by, spans_kept, kept_at}

-- what is found at a place is what the finding says that is kept there
abbrev pub KeptAreFacts : Type 0
KeptAreFacts =
    (rows : List TypeNode) (fs : List Finding) (s : Span) →
    fact_at s (facts_by rows fs) ≡ given (kept_at s fs) (λ f. Some (fact_by rows f))

-- the places are those at which something is found
abbrev pub PlacesAreKept : Type 0
PlacesAreKept = (rows : List TypeNode) (fs : List Finding) → places_of (facts_by rows fs) ≡ spans_kept fs
