-- The names of packages before names of a declaration, where it is written in another place (Go specification,
-- Qualified identifiers).
use Rattle.std.specs.Prelude.{ℕ, List, [], ◌∷◌, Option, Some, None, if◌then◌else◌, slice_get}
use Rattle.go_tree.specs.declared.spans.Span.{Span}
use Rattle.go_tree.specs.GoTypes.Answers.{given}
use Rattle.run_rules.specs.ImportRules.Removed.{same_span}

-- what stands first at a span
abbrev pub at_span : {A : Type 0} → Span → List (Span × A) → Option A
at_span s [] = None
at_span s (e ∷ es) = if same_span s e.0 then Some e.1 else at_span s es

-- The names of packages, and by the spans of names the numbers of those that stand before them.
pub record Told : Type 0 where
  pub packages : List (List ℕ)
  pub before : List (Span × ℕ)

-- the name of the package that stands before the name at a span
abbrev pub qualifier_at : Told → Span → Option (List ℕ)
qualifier_at t s = given (at_span s t.before) (slice_get t.packages)
