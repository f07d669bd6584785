-- The laws of files with the form of a use in its place. Each is the contract of a function of this crate (Go
-- specification, Constant declarations; Qualified identifiers; Import declarations).
use Rattle.std.specs.Prelude.{◌≡◌, List, []}
use Rattle.go_tree.specs.declared.spans.Span.{Span}
use Rattle.go_tree.specs.File.{File}
use Rattle.go_tree.specs.Tree.{Expr}
use Rattle.constant_edits.specs.ConstantForm.{ConstantForm}
use Rattle.printed_constants.specs.TypedParts.StandingUses.ImportUses.Parts.{IsNoImport}
use Rattle.run_by_steps.specs.NextPrograms.Made.{NextWith}
use Rattle.run_rules.specs.Printed.{ArePrinted}
use Rattle.printed_constants.specs.TypedParts.MarkedRuns.PutForms.Uses.{IsFirstUse, UsesNamedConstant}
use Rattle.run_rules.specs.FormTrees.{as_expr}
use Rattle.run_rules.specs.Run.{Standing}
use Rattle.run_rules.specs.Sites.{MarkRef}
use Rattle.run_rules.specs.Steps.{At, Found}
use Rattle.run_rules.specs.Texts.{FileText}
use Rattle.printed_constants.specs.TypedParts.MarkedRuns.SettledConstants.Programs.{IsReady}
use Rattle.printed_constants.specs.TypedParts.StandingUses.Laws.{AreTyped}
use Rattle.printed_constants.specs.TypedParts.StandingUses.ToldSteps.Laws.{BecomesForm}
use Rattle.go_translation.specs.SameMeaning.{WellTyped}
use Rattle.order_runs.specs.RunSteps.RunPackages.{packages_of}

-- In a program that is ready the first use of a constant that is declared as a name has a next program.
abbrev pub FirstUsesHaveNext : Type 0
FirstUsesHaveNext =
    (marks : List MarkRef) (st : Standing) (f : Found At) (old : FileText) → IsReady st → IsFirstUse marks st f old
    → UsesNamedConstant st f old → (new : FileText) × (tree : File Span) × NextWith marks st f old new tree

-- In a well-typed program the form of such a use, where it is a name alone, is that of no import.
abbrev pub FormsNameNoImport : Type 0
FormsNameNoImport =
    (marks : List MarkRef) (st : Standing) (f : Found At) (old : FileText) → IsReady st
    → WellTyped (packages_of st.packages []) → IsFirstUse marks st f old → UsesNamedConstant st f old → (e : Expr At)
    → f.form ≡ as_expr e → IsNoImport st.packages f.site.at f.site.place e

-- So the file of the use is typed, before the step and with the form in its place, in a program of constants and of
-- functions that print them.
abbrev pub FirstUsesAreTyped : Type 0
FirstUsesAreTyped =
    (marks : List MarkRef) (st : Standing) (f : Found At) (old : FileText) (form : ConstantForm) → IsReady st
    → WellTyped (packages_of st.packages []) → ArePrinted st.packages → IsFirstUse marks st f old
    → UsesNamedConstant st f old → BecomesForm f form → AreTyped marks st f form
