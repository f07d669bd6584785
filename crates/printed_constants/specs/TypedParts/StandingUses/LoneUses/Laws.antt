-- The law of uses that stand alone. It is the contract of a function of this crate (Go specification, Constant
-- declarations; Operands; Qualified identifiers).
use Rattle.std.specs.Prelude.{◌≡◌, ◌<◌, List, Some}
use Rattle.go_tree.specs.Tree.{NameAt, Expr}
use Rattle.printed_constants.specs.TypedParts.StandingUses.ImportUses.Steps.{EachDecl, IsStanding}
use Rattle.run_rules.specs.Inlining.{ReadsAs}
use Rattle.run_rules.specs.Laws.{file_found}
use Rattle.run_rules.specs.Respanned.{decls_with, expr_with}
use Rattle.run_rules.specs.Run.{Standing, here_of, step_in}
use Rattle.run_rules.specs.Sites.{MarkRef, an_expr, a_constant, inlinable, part_span}
use Rattle.run_rules.specs.Steps.{At, Found}
use Rattle.run_rules.specs.Texts.{FileText}
use Rattle.repeated_parts.specs.ImportsUnused.Uses.{all_parts}
use Rattle.printed_constants.specs.TypedParts.StandingUses.LoneUses.Alone.{StandsAlone}

-- Of the parts of a file that reads, just the first use of a constant that becomes a form is a name at its span, where
-- the declarations are as typing asks and the span has a byte.
abbrev pub ConstantUsesStandAlone : Type 0
ConstantUsesStandAlone =
    (marks : List MarkRef) (st : Standing) (f : Found At) (old : FileText) → step_in marks st ≡ Some f
    → ReadsAs old (file_found f) → (c : NameAt At) (v e : Expr At)
    → inlinable st.packages f.site.mark ≡ Some (a_constant c v) → f.site.part ≡ an_expr e
    → EachDecl (IsStanding st.packages f.site.at) f.site.at.source.tree.decls
    → (here_of (part_span f.site.part)).start < (here_of (part_span f.site.part)).end
    → StandsAlone (here_of (part_span f.site.part)) (expr_with here_of e)
    (all_parts (decls_with here_of f.site.at.source.tree.decls))
