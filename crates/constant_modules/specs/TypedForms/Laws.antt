-- The laws of files with the form of a use in its place. Each is the contract of a function of this crate (Go
-- specification, Constant declarations; Composite literals; For statements; Qualified identifiers).
use Rattle.std.specs.Prelude.{List, []}
use Rattle.go_tree.specs.declared.spans.Span.{Span}
use Rattle.go_tree.specs.File.{File}
use Rattle.go_translation.specs.SameMeaning.{WellTyped}
use Rattle.constant_edits.specs.ConstantForm.{ConstantForm}
use Rattle.order_runs.specs.RunSteps.RunPackages.{packages_of}
use Rattle.printed_constants.specs.TypedParts.MarkedRuns.PutForms.Uses.{IsFirstUse, UsesNamedConstant}
use Rattle.printed_constants.specs.TypedParts.MarkedRuns.SettledConstants.Programs.{IsReady}
use Rattle.printed_constants.specs.TypedParts.StandingUses.ImportUses.Steps.{EachDecl, IsStanding}
use Rattle.printed_constants.specs.TypedParts.StandingUses.Laws.{AreTyped}
use Rattle.printed_constants.specs.TypedParts.StandingUses.ToldSteps.Laws.{BecomesForm}
use Rattle.run_by_steps.specs.NextPrograms.Made.{NextWith}
use Rattle.run_rules.specs.Run.{Standing, Logged, Next, is_commented}
use Rattle.run_rules.specs.Sites.{MarkRef}
use Rattle.run_rules.specs.Steps.{At, Found, same_here, new_decls, packages_between, where_between}
use Rattle.run_rules.specs.Texts.{FileText}
use Rattle.constant_modules.specs.NamedAnywhere.Taken.{TakesNameThere}

-- all declarations of the file are as import_uses asks, with the form in the place of the use
abbrev pub StandBetween : List MarkRef → Standing → Found At → Type 0
StandBetween marks st f =
    EachDecl
    (IsStanding (packages_between same_here (is_commented st) st.packages marks f)
    (where_between same_here (is_commented st) st.packages marks f)) (new_decls same_here st.packages f.site f.form)

-- In a well-typed program of any declarations they are, where the step takes its name, but for its imports at last.
abbrev pub StepsStandBetween : Type 0
StepsStandBetween =
    (marks : List MarkRef) (st : Standing) (l : Logged) (after : Standing) (n : Next marks st l after)
    → TakesNameThere n → WellTyped (packages_of st.packages []) → StandBetween marks st n.found

-- So the file of the first use of such a program that becomes a form is typed as standing_uses asks, before the step and
-- with the form in the place of the use.
abbrev pub FirstUsesAreTyped : Type 0
FirstUsesAreTyped =
    (marks : List MarkRef) (st : Standing) (f : Found At) (old : FileText) (form : ConstantForm) → IsReady st
    → WellTyped (packages_of st.packages []) → IsFirstUse marks st f old → UsesNamedConstant st f old
    → BecomesForm f form
    → ((new : FileText) (tree : File Span) (x : NextWith marks st f old new tree) → TakesNameThere x.next)
    → AreTyped marks st f form
