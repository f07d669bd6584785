-- Declared names by the spans at which they stand (Go specification, Declarations and scope).
use Rattle.std.specs.Prelude.{ℕ, List, [], ◌∷◌, Option, Some, None, if◌then◌else◌}
use Rattle.std.specs.Option.{option_map}
use Rattle.go_tree.specs.declared.spans.Span.{Span}
use Rattle.run_rules.specs.ImportRules.Removed.{same_span}
use Rattle.run_rules.specs.Sites.{MarkRef}

-- the first of these names that stands at a span
abbrev pub at_span : Span → List (Span × MarkRef) → Option MarkRef
at_span s [] = None
at_span s (e ∷ es) = if same_span s e.0 then Some e.1 else at_span s es

-- the name with this number in a declaration
abbrev pub named_by : ℕ → ℕ → ℕ → Option ℕ → Option MarkRef
named_by k f d item = option_map (λ i. record { «package» = k; file = f; decl = d; item = i }) item
