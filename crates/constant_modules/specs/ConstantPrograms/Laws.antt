-- The laws of programs of constants on the way of a run. Each is the contract of a function of this crate (Go
-- specification, Constant declarations; Composite literals; Identifiers; Import declarations; Packages;
-- golang.org/x/tools, internal/refactor/inline, for what a run is; the limits are this project's own).
use Rattle.std.specs.Prelude.{◌≡◌, ℕ, ◌+◌, ◌≤◌, true, List, [], Some, None, slice_get}
use Rattle.std.specs.List.{list_all}
use Rattle.fresh_names.specs.Laws.{TakesFew}
use Rattle.go_tree.specs.declared.spans.Span.{Span}
use Rattle.go_tree.specs.GoWords.Tokens.Characters.{each}
use Rattle.go_translation.specs.SameMeaning.{WellTyped}
use Rattle.pkg_graph.specs.Package.{Package}
use Rattle.pkg_graph.specs.Reads.{Source}
use Rattle.splice_laws.specs.ImportSplices.AddedFile.{is_byte}
use Rattle.splice_laws.specs.RunLaws.Reading.{ProgramReads, OnePathEach}
use Rattle.constant_edits.specs.ConstantForm.{ConstantForm}
use Rattle.constant_steps.specs.FormImports.ImportLaws.Steps.{names_standing}
use Rattle.member_uses.specs.Laws.{AllConstants}
use Rattle.order_runs.specs.RunSteps.RunPackages.{packages_of}
use Rattle.printed_constants.specs.InlinedFiles.InlinedModules.Modules.{IsInlinedModule}
use Rattle.printed_constants.specs.TypedParts.MarkedRuns.PutForms.Uses.{IsFirstUse, UsesNamedConstant}
use Rattle.printed_constants.specs.TypedParts.StandingUses.Laws.{AreTyped}
use Rattle.printed_constants.specs.TypedParts.StandingUses.ToldSteps.Laws.{BecomesForm}
use Rattle.run_rules.specs.ImportRules.Needs.{avoided}
use Rattle.run_rules.specs.Inlining.{ModuleReads, IsInlining, standing_as_read}
use Rattle.run_rules.specs.Marks.{marks_of}
use Rattle.run_rules.specs.Programs.{world}
use Rattle.run_rules.specs.Respanned.{packages_with}
use Rattle.run_rules.specs.Run.{Standing, Logged, Next, here_of, module_file_size, texts_size, the_limits, passed}
use Rattle.run_rules.specs.Sites.{MarkRef, Where}
use Rattle.run_rules.specs.Steps.{At, Found}
use Rattle.run_rules.specs.Texts.{FileText}
use Rattle.typed_in_place.specs.SameWorlds.SameWorlds.{SameWorld}
use Rattle.constant_modules.specs.KeyedImports.Steps.{IsOverNameKeyed}
use Rattle.constant_modules.specs.ConstantPrograms.Programs.{HasForm, IsConstantProgram}

-- A module that reads and has the form is such a program, where the paths of its files are octets, it is well typed, all
-- its marks are of constants, and it is within the limit.
abbrev pub ReadModulesAreConstantPrograms : Type 0
ReadModulesAreConstantPrograms =
    (files : List Source) (ps : List (Package Span)) (texts : List (List ℕ × FileText)) (only : List ℕ)
    → ModuleReads files ps texts → list_all (λ f. each is_byte f.path) files ≡ true → WellTyped (packages_of ps [])
    → HasForm ps → AllConstants ps (marks_of ps texts only)
    → module_file_size files + texts_size texts ≤ the_limits.total
    → IsConstantProgram files (marks_of ps texts only) (standing_as_read ps texts)

-- The first use of such a program that becomes a form is that of a constant which is declared as a name, and its file
-- is typed, before the step and with the form in the use's place.
abbrev pub FirstUsesAreRight : Type 0
FirstUsesAreRight =
    (files : List Source) (marks : List MarkRef) (st : Standing) (f : Found At) (old : FileText) (form : ConstantForm)
    → IsConstantProgram files marks st → IsFirstUse marks st f old → BecomesForm f form
    → UsesNamedConstant st f old × AreTyped marks st f form

-- A step of such a program is one over a name, as keyed_imports asks.
abbrev pub StepsAreOverNames : Type 0
StepsAreOverNames =
    (files : List Source) (marks : List MarkRef) (st : Standing) (l : Logged) (after : Standing)
    (n : Next marks st l after) → IsConstantProgram files marks st → IsOverNameKeyed n

-- After a step that passes no limit it is such a program again.
abbrev pub ConstantProgramsStay : Type 0
ConstantProgramsStay =
    (files : List Source) (marks : List MarkRef) (done : List Logged) (st : Standing) (l : Logged) (after : Standing)
    (n : Next marks st l after) → IsConstantProgram files marks st
    → passed the_limits files done l n.new after.texts ≡ None → IsConstantProgram files marks after

-- Before a step and after it the same is found of the types and names that the packages declare.
abbrev pub StepsKeepWorlds : Type 0
StepsKeepWorlds =
    (files : List Source) (marks : List MarkRef) (st : Standing) (l : Logged) (after : Standing)
    (n : Next marks st l after) → IsConstantProgram files marks st
    → SameWorld (world st.packages) (world after.packages)

-- Where the texts of a program that reads are within the limit of a run, few names aren't new in each of its files.
abbrev pub SmallFilesTakeFew : Type 0
SmallFilesTakeFew =
    (st : Standing) → ProgramReads st → OnePathEach st.packages → texts_size st.texts ≤ the_limits.total
    → (w : Where At) → slice_get st.packages w.number ≡ Some w.of → slice_get w.of.files w.file_number ≡ Some w.source
    → TakesFew w.source.tree (avoided (names_standing st.packages w) [])

-- The inlining of such a module leaves files that read as a module, which is well typed and means what it meant: of its
-- steps nothing is asked.
abbrev pub FormedModulesAreInlined : Type 0
FormedModulesAreInlined =
    (files : List Source) (ps : List (Package Span)) (texts : List (List ℕ × FileText)) (only : List ℕ)
    (after : List (List ℕ × FileText)) (report : List ℕ)
    (i : IsInlining the_limits files ps texts only after report)
    → list_all (λ f. each is_byte f.path) files ≡ true → WellTyped (packages_of ps []) → HasForm ps
    → AllConstants ps (marks_of ps texts only) → texts_size texts ≤ the_limits.total
    → IsInlinedModule files ps texts i.log after (packages_with here_of i.last.packages)
