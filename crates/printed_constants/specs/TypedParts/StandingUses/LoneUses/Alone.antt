-- Names that stand alone at their spans (Go specification, Operands; Qualified identifiers; Selectors).
use Rattle.std.specs.Prelude.{◌≡◌, List, [], ◌∷◌, Option, Some, None}
use Rattle.go_tree.specs.declared.spans.Span.{Span}
use Rattle.go_tree.specs.Tree.{Expr, ident, selector}
use Rattle.run_rules.specs.Sites.{Part, an_expr}
use Rattle.member_uses.specs.PossibleUses.Candidates.{Candidate}

-- the span of a part that is a name, or a name behind a dot
abbrev pub span_named : Part Span → Option Span
span_named (an_expr (ident s n)) = Some s
span_named (an_expr (selector s b n)) = Some s
span_named x = None

-- it isn't this span
abbrev pub IsElsewhere : Span → Option Span → Type 0
IsElsewhere z None = Unit {0}
IsElsewhere z (Some s) = z ≡ s → ⊥

-- no name among parts stands at the span
abbrev pub AreElsewhere : Span → List (Candidate Span) → Type 0
AreElsewhere z [] = Unit {0}
AreElsewhere z (c ∷ cs) = IsElsewhere z (span_named c.part) × AreElsewhere z cs

-- Of some parts just one is a name at the span: this one.
pub data StandsAlone (z : Span) (e : Expr Span) : List (Candidate Span) → Type 0 where
  here : {c : Candidate Span} {cs : List (Candidate Span)} → c.part ≡ an_expr e → span_named (an_expr e) ≡ Some z
      → AreElsewhere z cs → StandsAlone z e (c ∷ cs)
  later : {c : Candidate Span} {cs : List (Candidate Span)} → IsElsewhere z (span_named c.part) → StandsAlone z e cs
      → StandsAlone z e (c ∷ cs)
