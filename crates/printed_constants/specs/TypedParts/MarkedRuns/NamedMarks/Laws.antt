-- The laws of marks of constants. Each is the contract of a function of this crate (Go specification, Constant
-- declarations; Qualified identifiers; Import declarations).
use Rattle.std.specs.Prelude.{◌≡◌, true, ℕ, List}
use Rattle.go_tree.specs.declared.spans.Span.{Span}
use Rattle.go_tree.specs.Tree.{Expr}
use Rattle.pkg_graph.specs.Package.{Package}
use Rattle.pkg_graph.specs.Reads.{Source}
use Rattle.member_uses.specs.Laws.{AllConstants}
use Rattle.run_rules.specs.Sites.{MarkRef, an_expr, is_among_marks}
use Rattle.run_rules.specs.Marks.{marks_of}
use Rattle.run_rules.specs.Steps.{At}
use Rattle.run_rules.specs.Texts.{FileText}
use Rattle.run_rules.specs.Run.{Standing, Logged, Next}
use Rattle.run_rules.specs.Inlining.{ModuleReads, standing_as_read}
use Rattle.put_names.specs.Uses.{UsesConstant}
use Rattle.printed_constants.specs.TypedParts.MarkedRuns.NamedMarks.Named.{AllNamed}

-- The mark of a use that is an expression is one of the marks.
abbrev pub UsesAreMarked : Type 0
UsesAreMarked =
    (marks : List MarkRef) (st : Standing) (l : Logged) (after : Standing) (n : Next marks st l after) (e : Expr At)
    → n.found.site.part ≡ an_expr e → is_among_marks marks n.found.site.mark ≡ true

-- So where each mark is that of a constant that is declared as a name, each step over an expression uses one.
abbrev pub NamedMarksAreUsed : Type 0
NamedMarksAreUsed =
    (marks : List MarkRef) (st : Standing) (l : Logged) (after : Standing) (n : Next marks st l after) (e : Expr At)
    → AllNamed st.packages marks → n.found.site.part ≡ an_expr e → UsesConstant n

-- In a module that reads each mark is that of a constant that is declared as a name, if all are of constants.
abbrev pub ReadMarksAreNamed : Type 0
ReadMarksAreNamed =
    (files : List Source) (ps : List (Package Span)) (texts : List (List ℕ × FileText)) (only : List ℕ)
    → ModuleReads files ps texts → AllConstants ps (marks_of ps texts only)
    → AllNamed (standing_as_read ps texts).packages (marks_of ps texts only)
