-- The laws of steps of such programs. Each is the contract of a function of this crate (Go specification, Constant
-- declarations; Qualified identifiers; Import declarations; golang.org/x/tools, internal/refactor/inline, for what a
-- run is; the limits are this project's own).
use Rattle.std.specs.Prelude.{◌≡◌, ℕ, ◌+◌, ◌≤◌, true, List, [], None}
use Rattle.std.specs.List.{list_all}
use Rattle.go_tree.specs.declared.spans.Span.{Span}
use Rattle.go_tree.specs.GoWords.Tokens.Characters.{each}
use Rattle.splice_laws.specs.ImportSplices.AddedFile.{is_byte}
use Rattle.pkg_graph.specs.Package.{Package}
use Rattle.pkg_graph.specs.Reads.{Source}
use Rattle.constant_edits.specs.ConstantForm.{ConstantForm}
use Rattle.go_translation.specs.SameMeaning.{WellTyped}
use Rattle.printed_constants.specs.TypedParts.MarkedRuns.KeptMarks.Over.{IsOverName}
use Rattle.printed_constants.specs.TypedParts.MarkedRuns.PutForms.Uses.{IsFirstUse, UsesNamedConstant}
use Rattle.member_uses.specs.Laws.{AllConstants}
use Rattle.order_runs.specs.RunSteps.RunPackages.{packages_of}
use Rattle.run_rules.specs.Inlining.{ModuleReads, standing_as_read}
use Rattle.run_rules.specs.Marks.{marks_of}
use Rattle.run_rules.specs.Run.{Standing, Logged, Next, module_file_size, texts_size, the_limits, passed}
use Rattle.run_rules.specs.Sites.{MarkRef}
use Rattle.run_rules.specs.Steps.{At, Found}
use Rattle.run_rules.specs.Texts.{FileText}
use Rattle.printed_constants.specs.TypedParts.StandingUses.Laws.{AreTyped}
use Rattle.printed_constants.specs.TypedParts.StandingUses.ToldSteps.Laws.{BecomesForm}
use Rattle.printed_constants.specs.NamedUses.Names.{AllConstantsNames}
use Rattle.run_rules.specs.Printed.{ArePrinted}
use Rattle.printed_constants.specs.PrintedSteps.Programs.{IsPrintedProgram}

-- A module that reads is such a program, where the paths of its files are octets, it is well typed, all its
-- declarations are constants and functions that print them, all its marks are of constants that are declared as names
-- of constants, and it is within the limit.
abbrev pub ReadModulesArePrintedPrograms : Type 0
ReadModulesArePrintedPrograms =
    (files : List Source) (ps : List (Package Span)) (texts : List (List ℕ × FileText)) (only : List ℕ)
    → ModuleReads files ps texts → list_all (λ f. each is_byte f.path) files ≡ true → WellTyped (packages_of ps [])
    → ArePrinted ps → AllConstants ps (marks_of ps texts only)
    → AllConstantsNames (standing_as_read ps texts).packages (marks_of ps texts only)
    → module_file_size files + texts_size texts ≤ the_limits.total
    → IsPrintedProgram files (marks_of ps texts only) (standing_as_read ps texts)

-- The first use of such a program that becomes a form is that of a constant which is declared as a name, and its file
-- is typed, before the step and with the form in the use's place.
abbrev pub FirstUsesAreRight : Type 0
FirstUsesAreRight =
    (files : List Source) (marks : List MarkRef) (st : Standing) (f : Found At) (old : FileText) (form : ConstantForm)
    → IsPrintedProgram files marks st → IsFirstUse marks st f old → BecomesForm f form
    → UsesNamedConstant st f old × AreTyped marks st f form

-- A step of such a program is one over a name, as kept_marks asks.
abbrev pub StepsAreOverNames : Type 0
StepsAreOverNames =
    (files : List Source) (marks : List MarkRef) (st : Standing) (l : Logged) (after : Standing)
    (n : Next marks st l after) → IsPrintedProgram files marks st → IsOverName n

-- After a step that passes no limit it is such a program again.
abbrev pub PrintedStepsKeep : Type 0
PrintedStepsKeep =
    (files : List Source) (marks : List MarkRef) (done : List Logged) (st : Standing) (l : Logged) (after : Standing)
    (n : Next marks st l after) → IsPrintedProgram files marks st
    → passed the_limits files done l n.new after.texts ≡ None → IsPrintedProgram files marks after
