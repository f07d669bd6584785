-- What is found at a place of a file, and places that are counted from the start of a declaration (Go specification,
-- Source file organization; Expressions; Constant expressions).
use Rattle.std.specs.Prelude.{ℕ, ◌+◌, ◌-◌, Bool, true, ◌&&◌, List, [], ◌∷◌, ◌++◌, map, Option, Some, None}
use Rattle.std.specs.Prelude.{if◌then◌else◌, nat_eq, slice_get}
use Rattle.go_tree.specs.declared.spans.Span.{Span}
use Rattle.go_tree.specs.declared.const_eval.consts.Const.{Const}
use Rattle.go_tree.specs.GoTypes.Answers.{given, distinct_by}
use Rattle.go_tree.specs.GoTypes.Types.{GoType}
use Rattle.checked_findings.specs.Facts.{Fact, Facts}

-- two spans are the same
abbrev pub same_span : Span → Span → Bool
same_span s t = nat_eq s.start t.start && nat_eq s.end t.end

-- what is found at a place
abbrev pub fact_at : Span → Facts Span → Option (Fact Span)
fact_at s [] = None
fact_at s (f ∷ fs) = if same_span s f.at then Some f else fact_at s fs

-- the places where something is found
abbrev pub places_of : Facts Span → List Span
places_of fs = map (λ f. f.at) fs

-- at no place two things are found
abbrev pub places_distinct : Facts Span → Bool
places_distinct fs = distinct_by same_span (places_of fs)

-- the findings of all declarations of a file
abbrev pub all_facts : {P : Type 0} → List (Facts P) → Facts P
all_facts [] = []
all_facts (fs ∷ more) = fs ++ all_facts more

-- what is found at a place of a file, by its number in the package
abbrev pub found_at : List (List (Facts Span)) → ℕ → Span → Option (Fact Span)
found_at files file s = given (slice_get files file) (λ ds. fact_at s (all_facts ds))

-- the type of the expression at a place; none where no typed expression has this span
abbrev pub type_at : List (List (Facts Span)) → ℕ → Span → Option GoType
type_at files file s = given (found_at files file s) (λ f. Some f.type)

-- its constant; none where no constant expression has this span
abbrev pub const_at : List (List (Facts Span)) → ℕ → Span → Option Const
const_at files file s = given (found_at files file s) (λ f. f.constant)

-- ---- places that are counted from the start of a declaration

-- a span counted from this place
abbrev pub from_start : ℕ → Span → Span
from_start n s = record { start = s.start - n; end = s.end - n }

-- a span as it is
abbrev pub as_written : Span → Span
as_written s = s

-- a span so many bytes further on
abbrev pub moved_by : ℕ → Span → Span
moved_by n s = record { start = s.start + n; end = s.end + n }

-- the place of a node that has another span in the place of its own
abbrev pub moved : {S T P : Type 0} → (T → P) → (S → T) → S → P
moved at to s = at (to s)
