-- Findings whose types are numbers: what they say by a table of types, and which stands at a place (Go specification,
-- Expressions; Types; Constant expressions).
use Rattle.std.specs.Prelude.{List, [], ◌∷◌, map, Option, Some, None, if◌then◌else◌, option_map, box_value}
use Rattle.go_tree.specs.declared.spans.Span.{Span}
use Rattle.go_tree.specs.declared.const_eval.consts.Const.{Const}
use Rattle.go_tree.specs.GoTypes.Table.{TypeNode}
use Rattle.type_table.specs.TypesAt.{type_at}
use Rattle.checked_findings.specs.Facts.{Fact, Facts}
use Rattle.checked_findings.specs.LookUp.{same_span}
use Rattle.kept_findings.specs.declared.findings.Finding.{Finding}

-- the constant of a finding, if it is one
abbrev pub constant_kept : Finding → Option Const
constant_kept f = option_map box_value f.constant

-- what a finding says by a table of types
abbrev pub fact_by : List TypeNode → Finding → Fact Span
fact_by rows f = record { at = f.at; type = type_at rows f.of.0; constant = constant_kept f }

-- what findings say
abbrev pub facts_by : List TypeNode → List Finding → Facts Span
facts_by rows fs = map (fact_by rows) fs

-- their places
abbrev pub spans_kept : List Finding → List Span
spans_kept fs = map (λ f. f.at) fs

-- the first that stands at a place
abbrev pub kept_at : Span → List Finding → Option Finding
kept_at s [] = None
kept_at s (f ∷ fs) = if same_span s f.at then Some f else kept_at s fs

-- the first of all, where it stands at a place
abbrev pub first_kept : Span → List Finding → Option Finding
first_kept s [] = None
first_kept s (f ∷ fs) = if same_span s f.at then Some f else None
